-- That a collection finds each leak, and in the order of the owners.
use Rattle.std.proofs.Common.{◌≡◌, ℕ, inl, inr, Bool, true, false, not, List, [], ◌∷◌, ◌++◌, map, refl, sym, ap, ◌∙◌, subst}
use Rattle.std.specs.Prelude.{AllPairs, Contains, IsTrue, ◌&&◌, ◌==◌}
use Rattle.std.specs.List.{filter, list_any}
use Rattle.std.proofs.lemmas.Bool.{cases_Bool, eqb-false}
use Rattle.std.proofs.lemmas.List.Elements.{Contains-append_left, Contains-append_right}
use Rattle.std.proofs.lemmas.List.Kept.{AllPairs-cons}
use Rattle.ipam_addr.specs.declared.address.Family.{Family}
use Rattle.ipam_addr.specs.declared.address.Family.TheVariants.{V4, V6}
use Rattle.ipam_addr.specs.Holding.{is_same_family}
use Rattle.ipam_addr.specs.Shape.{CidrValue}
use Rattle.ipam_block.specs.declared.allocation.Allocation.{Allocation}
use Rattle.ipam_records.specs.declared.key.Kind.TheVariants as kind
use Rattle.ipam_records.specs.declared.record.Record.{Record}
use Rattle.ipam_records.specs.declared.record.Record.TheVariants as record_of
use Rattle.ipam_records.specs.Datastore.{Datastore, rows_of_kind, row_key}
use Rattle.ipam_records.specs.KeyOrder.{is_of_kind}
use Rattle.ipam_model.specs.declared.request.CollectRequest.{CollectRequest}
use Rattle.ipam_model.specs.Moments.{Owns, Recorded}
use Rattle.ipam_model.specs.Owners.{Owner, is_owner_in, owner_of, owners, owners_in, owners_in_row, same_owner}
use Rattle.ipam_model.specs.Reads.{StoredRecord}
use Rattle.ipam_model.specs.Remove.{Leak, is_in_scope, is_live, leak_of, leaks, leaks_in_row, may_leak, suspects}
use Rattle.ipam_laws.proofs.CollectTrails.{owner_at}
use Rattle.ipam_laws.proofs.CountLemmas.{same_text}
use Rattle.ipam_laws.proofs.Members.{all-of, filter-in, in-cons, in-here, in-map, in-nothing, in-there}
use Rattle.ipam_laws.proofs.Owned.{owner-row, row-owner}
use Rattle.ipam_laws.proofs.OwnersOrder.{pairs-head, pairs-tail}

-- ---- tests that hold

pub any-from : {X : Type 0} → (test : X → Bool) (list : List X) (x : X) → Contains list x → test x ≡ true → list_any test list ≡ true
any-from test [] x among is = absurd (in-nothing x among)
any-from test (y ∷ list) x among is = elim (cases_Bool (test y)) [
  | inl here ↦ rw here refl
  | inr not_here ↦ elim (in-cons x y list among) [
    | inl same ↦ let no : test x ≡ false = ap test (sym same) ∙ not_here in absurd (cc (no, is))
    | inr later ↦ rw not_here (any-from test list x later is)
  ]
]

pub both-true : {one two : Bool} → one ≡ true → two ≡ true → (one && two) ≡ true
both-true {one} {two} e f = λ i. e i && f i

pub own-number : (n : ℕ) → (n == n) ≡ true
own-number n = elim (cases_Bool (n == n)) [ inl is ↦ is | inr not_it ↦ absurd (eqb-false n n not_it refl) ]

own-family : (family : Family) → is_same_family family family ≡ true
own-family V4 = refl
own-family V6 = refl

-- an owner is the same as itself
pub own-owner : (o : Owner) → same_owner o o ≡ true
own-owner o = both-true (both-true (both-true (own-family o.address.family) (own-number o.address.number)) (same_text o.handle)) (own-number o.stamp)

-- ---- each owner is listed

-- who owns is an owner in the blocks that are listed
owns-listed : (store : Datastore) (o : Owner) → Owns store o → is_owner_in (rows_of_kind kind.Block store) o ≡ true
owns-listed store o owns =
    let (row, among, own) = owner-row store.rows o owns in
    any-from (same_owner o) (owners_in (rows_of_kind kind.Block store)) o
    (row-owner (rows_of_kind kind.Block store) row o (filter-in (λ (r : StoredRecord). is_of_kind kind.Block (row_key r)) row store.rows among (of-block row.0 row.1 own)) own) (own-owner o)
  where
    of-block : (revision : ℕ) (found : Record) → Contains (owners_in_row (revision, found)) o → is_of_kind kind.Block (row_key (revision, found)) ≡ true
    of-block revision (record_of.Block b) own = refl
    of-block revision (record_of.Config config) own = absurd (in-nothing o own)
    of-block revision (record_of.Pools pools) own = absurd (in-nothing o own)
    of-block revision (record_of.Reservations reservations) own = absurd (in-nothing o own)
    of-block revision (record_of.Affinity a) own = absurd (in-nothing o own)
    of-block revision (record_of.Handle handle) own = absurd (in-nothing o own)

row-suspect : (collect : CollectRequest) (rows : List StoredRecord) (row : StoredRecord) (leak : Leak) → Contains rows row → Contains (leaks_in_row collect row) leak → Contains (suspects collect rows) leak
row-suspect collect [] row leak among own = absurd (in-nothing row among)
row-suspect collect (first ∷ rows) row leak among own = elim (in-cons row first rows among) [
  | inl same ↦ Contains-append_left (leaks_in_row collect first) (suspects collect rows) leak (subst (λ (r : StoredRecord). Contains (leaks_in_row collect r) leak) (sym same) own)
  | inr rest ↦ Contains-append_right (leaks_in_row collect first) (suspects collect rows) leak (row-suspect collect rows row leak rest own)
]

not-live : (b : Bool) → b ≡ false → not b ≡ true
not-live true e = absurd (cc e)
not-live false e = refl

-- who was recorded in scope, owns still, and is in neither list of live handles is found
pub leak-found : (first second : Datastore) (collect : CollectRequest) (live : List (List ℕ)) (o : Owner) (a : Allocation) → Recorded first o a → IsTrue (is_in_scope collect.scope a) → Owns second o → is_live collect.live o.handle ≡ false → is_live live o.handle ≡ false
    → Contains (map owner_at (leaks (suspects collect (rows_of_kind kind.Block first)) live (rows_of_kind kind.Block second))) o
leak-found first second collect live o a recorded scope owns dead still =
    subst (λ (x : Owner). Contains (map owner_at whole) x) (sym recorded.is_owner) (in-map owner_at leak whole found)
  where
    leak : Leak
    leak = leak_of recorded.holding.cidr a

    kept : List Leak
    kept = suspects collect (rows_of_kind kind.Block first)

    whole : List Leak
    whole = leaks kept live (rows_of_kind kind.Block second)

    row : StoredRecord
    row = (recorded.revision, record_of.Block recorded.holding)

    dead-there : not (is_live collect.live a.attributes.handle) ≡ true
    dead-there = not-live (is_live collect.live a.attributes.handle) (ap (λ (x : Owner). is_live collect.live x.handle) (sym recorded.is_owner) ∙ dead)

    among : Contains kept leak
    among =
        row-suspect collect (rows_of_kind kind.Block first) row leak (filter-in (λ (r : StoredRecord). is_of_kind kind.Block (row_key r)) row first.rows recorded.in_rows refl)
        (in-map (leak_of recorded.holding.cidr) a (filter (may_leak collect) recorded.holding.allocations) (filter-in (may_leak collect) a recorded.holding.allocations recorded.held (both-true scope dead-there)))

    owns-there : Owns second leak.owner
    owns-there = subst (λ (x : Owner). Owns second x) recorded.is_owner owns

    still-there : not (is_live live leak.owner.handle) ≡ true
    still-there = not-live (is_live live leak.owner.handle) (ap (λ (x : Owner). is_live live x.handle) (sym recorded.is_owner) ∙ still)

    found : Contains whole leak
    found = filter-in (λ (x : Leak). is_owner_in (rows_of_kind kind.Block second) x.owner && not (is_live live x.owner.handle)) leak kept among (both-true (owns-listed second leak.owner owns-there) still-there)

-- ---- the order

-- the one list is the other with some left out
data Thins {X : Type 0} : List X → List X → Type 0 where
  Nothing : Thins [] []
  Keep : (x : X) (xs ys : List X) → Thins xs ys → Thins (x ∷ xs) (x ∷ ys)
  Skip : (y : X) (xs ys : List X) → Thins xs ys → Thins xs (y ∷ ys)

thins-in : {X : Type 0} (xs ys : List X) → Thins xs ys → (x : X) → Contains xs x → Contains ys x
thins-in _ _ Nothing x among = among
thins-in _ _ (Keep y xs ys h) x among = elim (in-cons x y xs among) [
  | inl same ↦ subst (λ z. Contains (y ∷ ys) z) same (in-here y ys)
  | inr later ↦ in-there x y ys (thins-in xs ys h x later)
]
thins-in _ _ (Skip y xs ys h) x among = in-there x y ys (thins-in xs ys h x among)

thins-pairs : {X : Type 0} (R : X → X → Type 0) (xs ys : List X) → Thins xs ys → AllPairs R ys → AllPairs R xs
thins-pairs R _ _ Nothing h = h
thins-pairs R _ _ (Keep x xs ys t) h =
    AllPairs-cons R x xs (all-of (λ y. R x y) xs (λ y among. pairs-head R x ys h y (thins-in xs ys t y among))) (thins-pairs R xs ys t (pairs-tail R x ys h))
thins-pairs R _ _ (Skip y xs ys t) h = thins-pairs R xs ys t (pairs-tail R y ys h)

thins-same : {X : Type 0} (xs : List X) → Thins xs xs
thins-same [] = Nothing
thins-same (x ∷ xs) = Keep x xs xs (thins-same xs)

none-left : {X : Type 0} (ys : List X) → Thins [] ys
none-left [] = Nothing
none-left (y ∷ ys) = Skip y [] ys (none-left ys)

thins-append : {X : Type 0} (xs ys us vs : List X) → Thins xs ys → Thins us vs → Thins (xs ++ us) (ys ++ vs)
thins-append _ _ us vs Nothing k = k
thins-append _ _ us vs (Keep x xs ys h) k = Keep x (xs ++ us) (ys ++ vs) (thins-append xs ys us vs h k)
thins-append _ _ us vs (Skip y xs ys h) k = Skip y (xs ++ us) (ys ++ vs) (thins-append xs ys us vs h k)

thins-thins : {X : Type 0} (xs ys zs : List X) → Thins xs ys → Thins ys zs → Thins xs zs
thins-thins xs _ _ h Nothing = h
thins-thins xs _ _ h (Skip z ys zs k) = Skip z xs zs (thins-thins xs ys zs h k)
thins-thins _ _ _ (Keep y xs ys h) (Keep _ _ zs k) = Keep y xs zs (thins-thins xs ys zs h k)
thins-thins xs _ _ (Skip y _ ys h) (Keep _ _ zs k) = Skip y xs zs (thins-thins xs ys zs h k)

thins-filter : {X Y : Type 0} (f : X → Y) (test : X → Bool) (xs : List X) → Thins (map f (filter test xs)) (map f xs)
thins-filter f test [] = Nothing
thins-filter f test (x ∷ xs) = elim (cases_Bool (test x)) [
  | inl is ↦ rw is (Keep (f x) (map f (filter test xs)) (map f xs) (thins-filter f test xs))
  | inr not_it ↦ rw not_it (Skip (f x) (map f (filter test xs)) (map f xs) (thins-filter f test xs))
]

map-map : (cidr : CidrValue) (list : List Allocation) → map owner_at (map (leak_of cidr) list) ≡ map (owner_of cidr) list
map-map cidr [] = refl
map-map cidr (a ∷ list) = ap (λ (l : List Owner). owner_of cidr a ∷ l) (map-map cidr list)

map-append : (xs ys : List Leak) → map owner_at (xs ++ ys) ≡ map owner_at xs ++ map owner_at ys
map-append [] ys = refl
map-append (x ∷ xs) ys = ap (λ (l : List Owner). x.owner ∷ l) (map-append xs ys)

row-thins : (collect : CollectRequest) (revision : ℕ) (found : Record) → Thins (map owner_at (leaks_in_row collect (revision, found))) (owners_in_row (revision, found))
row-thins collect revision (record_of.Block b) =
    subst (λ (l : List Owner). Thins l (map (owner_of b.cidr) b.allocations)) (sym (map-map b.cidr (filter (may_leak collect) b.allocations))) (thins-filter (owner_of b.cidr) (may_leak collect) b.allocations)
row-thins collect revision (record_of.Config config) = Nothing
row-thins collect revision (record_of.Pools pools) = Nothing
row-thins collect revision (record_of.Reservations reservations) = Nothing
row-thins collect revision (record_of.Affinity a) = Nothing
row-thins collect revision (record_of.Handle handle) = Nothing

suspects-thin : (collect : CollectRequest) (rows : List StoredRecord) → Thins (map owner_at (suspects collect (filter (λ (r : StoredRecord). is_of_kind kind.Block (row_key r)) rows))) (owners_in rows)
suspects-thin collect [] = Nothing
suspects-thin collect (row ∷ rows) = elim (cases_Bool (is_of_kind kind.Block (row_key row))) [
  | inl is ↦ rw is (subst (λ (l : List Owner). Thins l (owners_in_row row ++ owners_in rows)) (sym (map-append (leaks_in_row collect row) rest))
      (thins-append (map owner_at (leaks_in_row collect row)) (owners_in_row row) (map owner_at rest) (owners_in rows) (row-thins collect row.0 row.1) (suspects-thin collect rows)))
  | inr not_it ↦ rw not_it (thins-append [] (owners_in_row row) (map owner_at rest) (owners_in rows) (none-left (owners_in_row row)) (suspects-thin collect rows))
]
  where
    rest : List Leak
    rest = suspects collect (filter (λ (r : StoredRecord). is_of_kind kind.Block (row_key r)) rows)

-- what is found has the order of the owners
pub leaks-order : (R : Owner → Owner → Type 0) (first second : Datastore) (collect : CollectRequest) (live : List (List ℕ)) → AllPairs R (owners first) → AllPairs R (map owner_at (leaks (suspects collect (rows_of_kind kind.Block first)) live (rows_of_kind kind.Block second)))
leaks-order R first second collect live h =
    let kept = suspects collect (rows_of_kind kind.Block first) in
    let whole = leaks kept live (rows_of_kind kind.Block second) in
    thins-pairs R (map owner_at whole) (owners first)
    (thins-thins (map owner_at whole) (map owner_at kept) (owners first) (thins-filter owner_at (λ (x : Leak). is_owner_in (rows_of_kind kind.Block second) x.owner && not (is_live live x.owner.handle)) kept) (suspects-thin collect first.rows)) h
