-- The text of a sound block is read back.
use Rattle.std.proofs.Common.{◌≡◌, ◌∙◌, ℕ, zero, suc, ◌+◌, ◌^◌, ◌<◌, ◌≤◌, Bool, true, false, ◌||◌, List, [], ◌∷◌, ◌++◌, length, get_or, map, Some, None, cond, refl, sym, ap, subst, arith, inl, inr, eq-eqb, ne_eqb, decimal, length-append}
use Rattle.std.specs.Prelude.{option_and_then, All, fold, find, position, nat_le, ◌==◌, bytes_eq, slice_get}
use Rattle.std.specs.List.{list_any, position_or_len, range_with_len}
use Rattle.std.specs.Cmp.Lexicographic.{pointwise}
use Rattle.std.proofs.lemmas.Bool.{and_parts, and_from, leb-true, le-leb, lt-ltb, cases_eq, or_left, or_right}
use Rattle.std.proofs.lemmas.Option.{slice_get-get_or}
use Rattle.std.proofs.lemmas.Fmt.{decimal_injective}
use Rattle.std.proofs.lemmas.List.Sums.{passes_at_first}
use Rattle.std.proofs.lemmas.Slice.Eq.{bytes_eq-Decides, slice_eq-Decides}
use Rattle.serde_json.specs.Data.{Data, Members, no_members}
use Rattle.serde_json.specs.Find.{get_member}
use Rattle.serde_json.proofs.Views.{get_member-put, get_member-put_other}
use Rattle.ipam_json.specs.Path.{as_whole}
use Rattle.ipam_block.specs.declared.allocation.Allocation.{Allocation}
use Rattle.ipam_block.specs.declared.allocation.Attributes.{Attributes}
use Rattle.ipam_block.specs.Shape.{BlockValue}
use Rattle.ipam_block.specs.Operations.{holder}
use Rattle.ipam_block.specs.Test.{ascends_from}
use Rattle.ipam_block_text.specs.Attributes.{Pair, is_same_pair, are_same, with_those_of, distinct_attributes}
use Rattle.ipam_block_text.specs.Parts.{holder_place}
use Rattle.ipam_json.specs.Built.{whole_data}
use Rattle.ipam_block_text.specs.Body.{with_stamp, stamps_data}
use Rattle.ipam_block_text.specs.Reading.{stamp_of, allocation_at, held_from}

-- ---- the attributes in use

pair_same : (a b c d : List ℕ) → a ≡ c → b ≡ d → ◌≡◌ {A = Pair} (a, b) (c, d)
pair_same a b c d e f = cc

same_pairs : (p q : Pair) → is_same_pair p q ≡ true → p ≡ q
same_pairs p q h =
    let parts = and_parts (bytes_eq p.0 q.0) (bytes_eq p.1 q.1) h in
    pair_same p.0 p.1 q.0 q.1 ((bytes_eq-Decides p.0 q.0).0 parts.0) ((bytes_eq-Decides p.1 q.1).0 parts.1)

pairs_same : (p q : Pair) → p ≡ q → is_same_pair p q ≡ true
pairs_same p q e =
    and_from _ _ ((bytes_eq-Decides p.0 q.0).1 (ap (λ x. x.0) e)) ((bytes_eq-Decides p.1 q.1).1 (ap (λ x. x.1) e))

pub are_same-true : (a b : Attributes) → are_same a b ≡ true → a ≡ b
are_same-true a b h =
    let parts = and_parts (bytes_eq a.handle b.handle) (pointwise is_same_pair a.secondary b.secondary) h in
    let handle = (bytes_eq-Decides a.handle b.handle).0 parts.0 in
    let secondary = (slice_eq-Decides (λ p q. (same_pairs p q, pairs_same p q)) a.secondary b.secondary (pointwise is_same_pair a.secondary b.secondary) refl).0 parts.1 in
    made a.handle b.handle a.secondary b.secondary handle secondary
  where
    made : (g h : List ℕ) (p q : List Pair) → g ≡ h → p ≡ q → ◌≡◌ {A = Attributes} (record { handle = g; secondary = p }) (record { handle = h; secondary = q })
    made g h p q e f = cc

pub are_same-itself : (a : Attributes) → are_same a a ≡ true
are_same-itself a =
    and_from _ _ ((bytes_eq-Decides a.handle a.handle).1 refl)
    ((slice_eq-Decides (λ p q. (same_pairs p q, pairs_same p q)) a.secondary a.secondary (pointwise is_same_pair a.secondary a.secondary) refl).1 refl)

list_any-push : (p : Attributes → Bool) (xs : List Attributes) (a : Attributes) → p a ≡ true → list_any p (xs ++ a ∷ []) ≡ true
list_any-push p [] a h = or_left (p a) false h
list_any-push p (x ∷ xs) a h = or_right (p x) _ (list_any-push p xs a h)

list_any-front : (p : Attributes → Bool) (xs ys : List Attributes) → list_any p xs ≡ true → list_any p (xs ++ ys) ≡ true
list_any-front p [] ys h = absurd cc
list_any-front p (x ∷ xs) ys h =
    elim (p x) as (λ v. (p x ≡ v) → (v || list_any p xs) ≡ true → (v || list_any p (xs ++ ys)) ≡ true) [
      | true ↦ λ e k. refl
      | false ↦ λ e k. list_any-front p xs ys k
    ] refl h

stays : (p : Attributes → Bool) (found : List Attributes) (a : Allocation) → list_any p found ≡ true → list_any p (with_those_of found a) ≡ true
stays p found a h =
    elim (list_any (are_same a.attributes) found) as (λ v. list_any p (cond v found (found ++ a.attributes ∷ [])) ≡ true) [
      | true ↦ h
      | false ↦ list_any-front p found (a.attributes ∷ []) h
    ]

stays_in : (p : Attributes → Bool) (found : List Attributes) (xs : List Allocation) → list_any p found ≡ true → list_any p (fold with_those_of found xs) ≡ true
stays_in p found [] h = h
stays_in p found (x ∷ xs) h = stays_in p (with_those_of found x) xs (stays p found x h)

added : (found : List Attributes) (a : Allocation) → list_any (are_same a.attributes) (with_those_of found a) ≡ true
added found a =
    elim (list_any (are_same a.attributes) found) as (λ v. (list_any (are_same a.attributes) found ≡ v) → list_any (are_same a.attributes) (cond v found (found ++ a.attributes ∷ [])) ≡ true) [
      | true ↦ λ e. e
      | false ↦ λ e. list_any-push (are_same a.attributes) found a.attributes (are_same-itself a.attributes)
    ] refl

in_use : (found : List Attributes) (xs : List Allocation) → All (λ y. list_any (are_same y.attributes) (fold with_those_of found xs) ≡ true) xs
in_use found [] i d within = absurd (omega arith)
in_use found (x ∷ xs) zero d within = stays_in (are_same x.attributes) (with_those_of found x) xs (added found x)
in_use found (x ∷ xs) (suc i) d within = in_use (with_those_of found x) xs i d (omega arith)

pub few_in_use : (found : List Attributes) (xs : List Allocation) → length (fold with_those_of found xs) ≤ length found + length xs
few_in_use found [] = omega arith
few_in_use found (x ∷ xs) =
    let rest = few_in_use (with_those_of found x) xs in
    let here : length (with_those_of found x) ≤ length found + 1 = elim (list_any (are_same x.attributes) found) as (λ v. length (cond v found (found ++ x.attributes ∷ [])) ≤ length found + 1) [
      | true ↦ omega arith
      | false ↦ omega (arith, length-append found (x.attributes ∷ []))
    ] in
    omega arith

position_within : (p : Attributes → Bool) (xs : List Attributes) → list_any p xs ≡ true → position_or_len p xs < length xs
position_within p [] h = absurd cc
position_within p (x ∷ xs) h =
    elim (p x) as (λ v. (p x ≡ v) → (v || list_any p xs) ≡ true → position_or_len p (x ∷ xs) < suc (length xs)) [
      | true ↦ λ e k. rw e (omega arith)
      | false ↦ λ e k. rw e (omega (arith, position_within p xs k))
    ] refl h

-- ---- an allocation that can be found again

pub record IsKnown (all : List Attributes) (stamps : Data) (y : Allocation) : Type 0 where
  pub index : ℕ
  pub placed : position (are_same y.attributes) all ≡ Some index
  pub there : slice_get all index ≡ Some y.attributes
  pub stamped : stamp_of stamps y.ordinal ≡ Some y.stamp

known : (all : List Attributes) (stamps : Data) (y : Allocation) → list_any (are_same y.attributes) all ≡ true → stamp_of stamps y.ordinal ≡ Some y.stamp → IsKnown all stamps y
known all stamps y some stamped =
    let p = are_same y.attributes in
    let i = position_or_len p all in
    let within = position_within p all some in
    let at = get_or all i y.attributes in
    let passes = passes_at_first p all y.attributes within in
    record {
      index = i;
      placed = ap (λ b. cond b (Some i) None) (lt-ltb _ _ within);
      there = slice_get-get_or all i y.attributes within ∙ ap Some (sym (are_same-true y.attributes at passes));
      stamped = stamped;
    }

allocation_known : (all : List Attributes) (stamps : Data) (y : Allocation) (h : IsKnown all stamps y) → allocation_at all stamps y.ordinal h.index ≡ Some y
allocation_known all stamps y h = rw (h.there, h.stamped) refl

-- ---- the stamps

ascends_lower : (more less : ℕ) (xs : List Allocation) → less ≤ more → ascends_from more xs ≡ true → ascends_from less xs ≡ true
ascends_lower more less [] lower h = refl
ascends_lower more less (x ∷ xs) lower h =
    let parts = and_parts (nat_le more x.ordinal) (ascends_from (x.ordinal + 1) xs) h in
    let above = leb-true _ _ parts.0 in
    and_from _ _ (le-leb _ _ (omega arith)) parts.1

stamp_later : (o : ℕ) (xs : List Allocation) (ms : Members) → o < 2 ^ 64 → ascends_from (o + 1) xs ≡ true → All (λ x. x.ordinal < 2 ^ 64) xs → get_member (decimal o) (fold with_stamp ms xs) ≡ get_member (decimal o) ms
stamp_later o [] ms small up all = refl
stamp_later o (x ∷ xs) ms small up all =
    let parts = and_parts (nat_le (o + 1) x.ordinal) (ascends_from (x.ordinal + 1) xs) up in
    let above = leb-true _ _ parts.0 in
    let fits : x.ordinal < 2 ^ 64 = all 0 x (omega arith) in
    let later = stamp_later o xs (with_stamp ms x) small (ascends_lower (x.ordinal + 1) (o + 1) xs (omega arith) parts.1) (λ i d within. all (suc i) d (omega arith)) in
    later ∙ get_member-put_other (decimal o) (decimal x.ordinal) (whole_data x.stamp) ms (λ e. let same = decimal_injective o x.ordinal small fits e in omega arith)

stamps_there : (least : ℕ) (xs : List Allocation) (ms : Members) → ascends_from least xs ≡ true → All (λ x. x.ordinal < 2 ^ 64) xs → All (λ y. get_member (decimal y.ordinal) (fold with_stamp ms xs) ≡ Some (whole_data y.stamp)) xs
stamps_there least [] ms up all i d within = absurd (omega arith)
stamps_there least (x ∷ xs) ms up all zero d within =
    let parts = and_parts (nat_le least x.ordinal) (ascends_from (x.ordinal + 1) xs) up in
    stamp_later x.ordinal xs (with_stamp ms x) (all 0 x (omega arith)) parts.1 (λ i d within. all (suc i) d (omega arith))
    ∙ get_member-put (decimal x.ordinal) (whole_data x.stamp) ms
stamps_there least (x ∷ xs) ms up all (suc i) d within =
    let parts = and_parts (nat_le least x.ordinal) (ascends_from (x.ordinal + 1) xs) up in
    stamps_there (x.ordinal + 1) xs (with_stamp ms x) parts.1 (λ i d within. all (suc i) d (omega arith)) i d (omega arith)

stamped_all : (xs : List Allocation) → ascends_from 0 xs ≡ true → All (λ x. x.ordinal < 2 ^ 64) xs → All (λ y. stamp_of (stamps_data xs) y.ordinal ≡ Some y.stamp) xs
stamped_all xs up all i d within = ap (option_and_then as_whole) (stamps_there 0 xs no_members up all i d within)

pub all_known : (xs : List Allocation) → ascends_from 0 xs ≡ true → All (λ x. x.ordinal < 2 ^ 64) xs → All (λ y. IsKnown (distinct_attributes xs) (stamps_data xs) y) xs
all_known xs up all i d within =
    known (distinct_attributes xs) (stamps_data xs) (get_or xs i d) (in_use [] xs i d within) (stamped_all xs up all i d within)

-- ---- what is held

none_at : (least a : ℕ) (ys : List Allocation) → a < least → ascends_from least ys ≡ true → find (λ x. x.ordinal == a) ys ≡ None
none_at least a [] below up = refl
none_at least a (y ∷ ys) below up =
    let parts = and_parts (nat_le least y.ordinal) (ascends_from (y.ordinal + 1) ys) up in
    let above = leb-true _ _ parts.0 in
    rw (ne_eqb y.ordinal a (λ e. omega arith)) (none_at (y.ordinal + 1) a ys (omega arith) parts.1)

place_none : (all : List Attributes) (b : BlockValue) (o : ℕ) → holder b o ≡ None → holder_place all b o ≡ None
unfolding holder_place
place_none all b o e = ap (option_and_then (λ a. position (are_same a.attributes) all)) e

place_some : (all : List Attributes) (b : BlockValue) (o : ℕ) (y : Allocation) → holder b o ≡ Some y → holder_place all b o ≡ position (are_same y.attributes) all
unfolding holder_place
place_some all b o y e = ap (option_and_then (λ a. position (are_same a.attributes) all)) e

-- what is held from the ordinal on is found again
pub held_back : (all : List Attributes) (stamps : Data) (b : BlockValue) (a m : ℕ) (ys : List Allocation) → ((o : ℕ) → a ≤ o → holder b o ≡ find (λ x. x.ordinal == o) ys) → ascends_from a ys ≡ true → All (λ y. y.ordinal < a + m) ys → All (λ y. IsKnown all stamps y) ys → held_from all stamps a (map (holder_place all b) (range_with_len a m)) ≡ Some ys
held_back all stamps b a zero [] held up below known = refl
held_back all stamps b a zero (y ∷ ys) held up below known =
    let parts = and_parts (nat_le a y.ordinal) (ascends_from (y.ordinal + 1) ys) up in
    let above = leb-true _ _ parts.0 in
    let under : y.ordinal < a + 0 = below 0 y (omega arith) in
    absurd (omega arith)
held_back all stamps b a (suc m) [] held up below known =
    rw (place_none all b a (held a (omega arith)))
    (held_back all stamps b (a + 1) m [] (λ o from. held o (omega arith)) refl (λ i d within. absurd (omega arith)) (λ i d within. absurd (omega arith)))
held_back all stamps b a (suc m) (y ∷ ys) held up below known =
    let parts = and_parts (nat_le a y.ordinal) (ascends_from (y.ordinal + 1) ys) up in
    let above = leb-true _ _ parts.0 in
    elim (cases_eq y.ordinal a) [
      | inl same ↦
          let k : IsKnown all stamps y = known 0 y (omega arith) in
          let here : find (λ x. x.ordinal == a) (y ∷ ys) ≡ Some y = rw (eq-eqb y.ordinal a same) refl in
          let place = place_some all b a y (held a (omega arith) ∙ here) ∙ k.placed in
          let Q : ℕ → Type 0 = λ o. allocation_at all stamps o k.index ≡ Some y in
          let allocation = subst Q same (allocation_known all stamps y k) in
          let R : ℕ → Type 0 = λ o. ascends_from (o + 1) ys ≡ true in
          let rest = held_back all stamps b (a + 1) m ys
          (λ o from. held o (omega arith) ∙ later o (omega arith))
          (subst R same parts.1)
          (λ i d within. let under = below (suc i) d (omega arith) in omega arith)
          (λ i d within. known (suc i) d (omega arith)) in
          rw (place, allocation, rest) refl
      | inr other ↦
          let above_all : ascends_from (a + 1) (y ∷ ys) ≡ true = and_from _ _ (le-leb _ _ (omega arith)) parts.1 in
          let none = held a (omega arith) ∙ none_at (a + 1) a (y ∷ ys) (omega arith) above_all in
          rw (place_none all b a none)
          (held_back all stamps b (a + 1) m (y ∷ ys) (λ o from. held o (omega arith)) above_all
          (λ i d within. let under = below i d within in omega arith) known)
    ]
  where
    later : (o : ℕ) → y.ordinal < o → find (λ x. x.ordinal == o) (y ∷ ys) ≡ find (λ x. x.ordinal == o) ys
    later o more = rw (ne_eqb y.ordinal o (λ e. omega arith)) refl
