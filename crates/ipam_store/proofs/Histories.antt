-- The changes over a list of writes.
use Rattle.std.proofs.Common.{arith, ◌≡◌, ℕ, zero, suc, ◌<◌, ◌≤◌, Bool, true, false, cond, nat_lt, nat_le, Option, Some, None, List, [], ◌∷◌, ◌++◌, take, reverse, sym, ap, ◌∙◌, refl, subst, append-nil}
use Rattle.std.proofs.lemmas.Bool.Decides.{nat_tests}
use Rattle.std.proofs.lemmas.List.{reverse-append}
use Rattle.std.proofs.lemmas.List.Sums.{take_while-cons}
use Rattle.std.specs.Option.{option_to_list}
use Rattle.std.specs.List.{AllByRecursion, cons_option, filter, take_while, slice_get}
use Rattle.ipam_records.specs.declared.call.Write.{Write}
use Rattle.ipam_records.specs.Datastore.{Datastore}
use Rattle.ipam_store.specs.declared.route.Route.{Route}
use Rattle.ipam_store.specs.declared.change.Change.{Change}
use Rattle.ipam_store.specs.Route.{routes_in}
use Rattle.ipam_store.specs.Change.{Leads}
use Rattle.ipam_store.specs.Feed.{write_revision, store_after_writes, TakeNext, routes_at, changes_of, is_above, changes_since, revision_or}
use Rattle.ipam_store.specs.Turned.{change_meant, is_change, if_change, change_of}
use Rattle.ipam_store.proofs.FeedRows.{routes-ascend}
use Rattle.ipam_store.proofs.Writes.{Ascend, RoutesAscend, IsChangeOf, ascend-written, counter-written, write-changes, revision-meant}

below_test : (m n : ℕ) → m < n → nat_lt m n ≡ true
below_test m n h = grind (arith, nat_tests)

not_below : (m n : ℕ) → nat_lt m n ≡ false → n ≤ m
not_below m n e = grind (arith, nat_tests)

not_below_test : (m n : ℕ) → n ≤ m → nat_lt m n ≡ false
not_below_test m n h = grind (arith, nat_tests)

-- ---- the changes, one write after the other
pub ascend-after : (base : Datastore) → Ascend base.rows → (writes : List Write) → Ascend (store_after_writes base writes).rows
ascend-after base s [] = s
ascend-after base s (write ∷ earlier) = ascend-written (store_after_writes base earlier) write (ascend-after base s earlier)

routes_ascend_after : (base : Datastore) → Ascend base.rows → (writes : List Write) → RoutesAscend (routes_in (store_after_writes base writes))
routes_ascend_after base s writes = routes-ascend (store_after_writes base writes).rows (ascend-after base s writes)

-- the change of a write after others
abbrev pub next_change : Datastore → Write → List Write → Option Change
next_change base write earlier = change_of (routes_in (store_after_writes base earlier)) write

pub next_change_is : (base : Datastore) → Ascend base.rows → (write : Write) (earlier : List Write) → IsChangeOf (write_revision write) (routes_in (store_after_writes base earlier)) (routes_in (store_after_writes base (write ∷ earlier))) (next_change base write earlier)
next_change_is base s write earlier =
    write-changes (store_after_writes base earlier) write (ascend-after base s earlier) (routes_ascend_after base s earlier)

listed_option : {X : Type 0} (o : Option X) (xs : List X) → option_to_list o ++ xs ≡ cons_option o xs
listed_option None xs = refl
listed_option (Some x) xs = refl

pub changes-step : (base : Datastore) → Ascend base.rows → (write : Write) (earlier : List Write) → changes_of base (write ∷ earlier) ≡ cons_option (next_change base write earlier) (changes_of base earlier)
changes-step base s write earlier =
    ap (λ xs. xs ++ changes_of base earlier) (next_change_is base s write earlier).differ
    ∙ listed_option (next_change base write earlier) (changes_of base earlier)

if_change_is : (routes : List Route) (meant : Option Change) (change : Change) → if_change routes meant ≡ Some change → meant ≡ Some change
if_change_is routes None change e = absurd (cc e)
if_change_is routes (Some meant) change e = by_test (is_change routes meant) e
  where
    by_test : (b : Bool) → cond b (Some meant) None ≡ Some change → Some meant ≡ Some change
    by_test true h = h
    by_test false h = absurd (cc h)

pub revision-change_of : (routes : List Route) (write : Write) (change : Change) → change_of routes write ≡ Some change → change.revision ≡ write_revision write
revision-change_of routes write change e = revision-meant write change (if_change_is routes (change_meant write) change e)

-- ---- revisions
abbrev pub AreBy : ℕ → List Change → Type 0
AreBy revision changes = AllByRecursion (λ (c : Change). c.revision ≤ revision) changes

by_later : (low high : ℕ) → low ≤ high → (changes : List Change) → AreBy low changes → AreBy high changes
by_later low high h [] all = tt
by_later low high h (c ∷ cs) all = let first = all.0 in (omega arith, by_later low high h cs all.1)

-- of two changes the newer one has the higher revision
abbrev pub Fall : List Change → Type 0
Fall [] = Unit {0}
Fall (c ∷ cs) = AreBy c.revision cs × Fall cs

pub record AreInOrder (counter : ℕ) (changes : List Change) : Type 0 where
  pub by : AreBy counter changes
  pub fall : Fall changes

in_order_with : (counter revision : ℕ) (changes : List Change) → counter ≤ revision → AreInOrder counter changes → (o : Option Change) → ((c : Change) → o ≡ Some c → c.revision ≡ revision) → AreInOrder revision (cons_option o changes)
in_order_with counter revision changes h are None own = record { by = by_later counter revision h changes are.by; fall = are.fall }
in_order_with counter revision changes h are (Some c) own =
    let is = own c refl in
    let later = by_later counter revision h changes are.by in
    record {
      by = (omega arith, later);
      fall = (subst (λ v. AreBy v changes) (sym is) later, are.fall);
    }

pub in_order : (base : Datastore) → Ascend base.rows → (writes : List Write) → TakeNext base writes → AreInOrder (store_after_writes base writes).counter (changes_of base writes)
in_order base s [] next = record { by = tt; fall = tt }
in_order base s (write ∷ earlier) next =
    let counter = counter-written (store_after_writes base earlier) write in
    let le : (store_after_writes base earlier).counter ≤ write_revision write = let e = next.0 in omega arith in
    let are = in_order_with (store_after_writes base earlier).counter (write_revision write) (changes_of base earlier) le (in_order base s earlier next.1) (next_change base write earlier) (revision-change_of (routes_in (store_after_writes base earlier)) write) in
    let P : List Change → Type 0 = λ cs. AreInOrder (store_after_writes base (write ∷ earlier)).counter cs in
    subst P (sym (changes-step base s write earlier)) (subst (λ v. AreInOrder v (cons_option (next_change base write earlier) (changes_of base earlier))) (sym counter) are)

-- ---- the changes above a revision
none_above : (revision : ℕ) (changes : List Change) → AreBy revision changes → filter (is_above revision) changes ≡ []
none_above revision [] all = refl
none_above revision (c ∷ cs) all =
    ap (λ b. cond b (c ∷ filter (is_above revision) cs) (filter (is_above revision) cs)) (not_below_test revision c.revision all.0)
    ∙ none_above revision cs all.1

above_first : (revision : ℕ) (changes : List Change) → Fall changes → take_while (is_above revision) changes ≡ filter (is_above revision) changes
above_first revision [] fall = refl
above_first revision (c ∷ cs) fall = take_while-cons (is_above revision) c cs ∙ by_test (is_above revision c) refl (above_first revision cs fall.1)
  where
    by_test : (b : Bool) → is_above revision c ≡ b → take_while (is_above revision) cs ≡ filter (is_above revision) cs → cond b (c ∷ take_while (is_above revision) cs) [] ≡ cond b (c ∷ filter (is_above revision) cs) (filter (is_above revision) cs)
    by_test true h rest = ap (λ xs. c ∷ xs) rest
    by_test false h rest =
        let low : c.revision ≤ revision = not_below revision c.revision h in
        sym (none_above revision cs (by_later c.revision revision low cs fall.0))

-- the kept ones are enough from the floor on
kept_enough : (passes : Change → Bool) (n : ℕ) (changes : List Change) → ((c : Change) → slice_get changes n ≡ Some c → passes c ≡ false) → take_while passes (take n changes) ≡ take_while passes changes
kept_enough passes zero [] fails = refl
kept_enough passes zero (c ∷ cs) fails =
    sym (take_while-cons passes c cs ∙ ap (λ b. cond b (c ∷ take_while passes cs) []) (fails c refl))
kept_enough passes (suc n) [] fails = refl
kept_enough passes (suc n) (c ∷ cs) fails =
    take_while-cons passes c (take n cs)
    ∙ (ap (λ xs. cond (passes c) (c ∷ xs) []) (kept_enough passes n cs fails) ∙ sym (take_while-cons passes c cs))

pub kept_since : (n counter revision : ℕ) (changes : List Change) → Fall changes → revision_or counter (slice_get changes n) ≤ revision → reverse (take_while (is_above revision) (take n changes)) ≡ reverse (filter (is_above revision) changes)
kept_since n counter revision changes fall floor =
    ap reverse (kept_enough (is_above revision) n changes below ∙ above_first revision changes fall)
  where
    below : (c : Change) → slice_get changes n ≡ Some c → is_above revision c ≡ false
    below c e = not_below_test revision c.revision (subst (λ o. revision_or counter o ≤ revision) e floor)

-- ---- the changes lead on
leads_on : (before middle after : List Route) (first rest : List Change) → Leads before first middle → Leads middle rest after → Leads before (first ++ rest) after
leads_on before middle after [] rest leads more = subst (λ rs. Leads rs rest after) (sym leads) more
leads_on before middle after (c ∷ cs) rest leads more = (leads.0, leads.1, leads_on leads.0 middle after cs rest leads.2 more)

reverse_with : {X : Type 0} (x : X) (xs : List X) → reverse (x ∷ xs) ≡ reverse xs ++ x ∷ []
reverse_with x xs = reverse-append (x ∷ []) xs

since_with : (revision : ℕ) (o : Option Change) (changes : List Change) → ((c : Change) → o ≡ Some c → revision < c.revision) → reverse (filter (is_above revision) (cons_option o changes)) ≡ reverse (filter (is_above revision) changes) ++ option_to_list o
since_with revision None changes own = sym (append-nil (reverse (filter (is_above revision) changes)))
since_with revision (Some c) changes own =
    ap (λ b. reverse (cond b (c ∷ filter (is_above revision) changes) (filter (is_above revision) changes))) (below_test revision c.revision (own c refl))
    ∙ reverse_with c (filter (is_above revision) changes)

pub leads_since : (base : Datastore) → Ascend base.rows → (writes : List Write) → TakeNext base writes → (revision : ℕ) → Leads (routes_at base writes revision) (changes_since base writes revision) (routes_in (store_after_writes base writes))
leads_since base s [] next revision = refl
leads_since base s (write ∷ earlier) next revision = by_test (nat_le (write_revision write) revision) refl (leads_since base s earlier next.1 revision)
  where
    now : List Route
    now = routes_in (store_after_writes base (write ∷ earlier))

    counter : (store_after_writes base (write ∷ earlier)).counter ≡ write_revision write
    counter = counter-written (store_after_writes base earlier) write

    low : nat_le (write_revision write) revision ≡ true → write_revision write ≤ revision
    low e = grind (arith, nat_tests)

    high : nat_le (write_revision write) revision ≡ false → revision < write_revision write
    high e = grind (arith, nat_tests)

    by_test : (b : Bool) → nat_le (write_revision write) revision ≡ b → Leads (routes_at base earlier revision) (changes_since base earlier revision) (routes_in (store_after_writes base earlier)) → Leads (cond b now (routes_at base earlier revision)) (changes_since base (write ∷ earlier) revision) now
    by_test true h leads =
        let le = low h in
        let by = by_later (store_after_writes base (write ∷ earlier)).counter revision (omega (arith, counter)) (changes_of base (write ∷ earlier)) (in_order base s (write ∷ earlier) next).by in
        let none : changes_since base (write ∷ earlier) revision ≡ [] = ap reverse (none_above revision (changes_of base (write ∷ earlier)) by) in
        subst (λ cs. Leads now cs now) (sym none) refl
    by_test false h leads =
        let lt = high h in
        let own : (c : Change) → next_change base write earlier ≡ Some c → revision < c.revision =
        λ c e. let is = revision-change_of (routes_in (store_after_writes base earlier)) write c e in omega arith in
        let split : changes_since base (write ∷ earlier) revision ≡ changes_since base earlier revision ++ option_to_list (next_change base write earlier) =
        ap (λ cs. reverse (filter (is_above revision) cs)) (changes-step base s write earlier)
        ∙ since_with revision (next_change base write earlier) (changes_of base earlier) own in
        subst (λ cs. Leads (routes_at base earlier revision) cs now) (sym split)
        (leads_on (routes_at base earlier revision) (routes_in (store_after_writes base earlier)) now (changes_since base earlier revision) (option_to_list (next_change base write earlier)) leads (next_change_is base s write earlier).leads)
