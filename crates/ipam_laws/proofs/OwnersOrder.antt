-- Owners are listed strictly by family and address, so no address has two.
use Rattle.std.proofs.Common.{◌≡◌, ◌≢◌, ◌⊎◌, ℕ, zero, suc, ◌+◌, ◌-◌, ◌<◌, ◌≤◌, inl, inr, List, [], ◌∷◌, ◌++◌, map, Option, Some, None, refl, sym, ap, ◌∙◌, subst, arith}
use Rattle.std.specs.Prelude.{AllPairs, Contains, slice_get}
use Rattle.std.specs.declared.cmp.Ordering.TheVariants.{Less, Equal, Greater}
use Rattle.std.specs.Cmp.{nat_cmp_is, tied_itself}
use Rattle.std.specs.List.{AllByRecursion}
use Rattle.std.specs.List.Sorted.{IsStrictlySortedBy}
use Rattle.std.specs.Ordering.{nat_cmp}
use Rattle.std.proofs.Math.Nat.{one-le-pow}
use Rattle.std.proofs.lemmas.Bool.{cases_lt}
use Rattle.std.proofs.lemmas.List.Elements.{All-contains, Contains-append_cases, Contains-append_left}
use Rattle.std.proofs.lemmas.List.Kept.{AllPairs-cons}
use Rattle.ipam_addr.specs.declared.address.Family.{Family}
use Rattle.ipam_addr.specs.declared.address.Family.TheVariants.{V4, V6}
use Rattle.ipam_addr.specs.Shape.{AddrValue, CidrValue}
use Rattle.ipam_addr.specs.Width.{cidr_size, width}
use Rattle.ipam_addr.specs.Slots.{slot_of}
use Rattle.ipam_addr.specs.Holding.{Holds, cidr_end, first_address}
use Rattle.ipam_pool.specs.declared.pools.Pool.{Pool}
use Rattle.ipam_pool.specs.Sound.{IsPoolTable}
use Rattle.ipam_pool.specs.Slots.{LiesInSlot}
use Rattle.ipam_pool.proofs.SlotsLemmas.{at_most_one}
use Rattle.ipam_block.specs.declared.allocation.Allocation.{Allocation}
use Rattle.ipam_block.specs.Shape as block
use Rattle.ipam_block.specs.Sound.{IsBlock, held_ordinals}
use Rattle.ipam_block.proofs.Ordinals.{shared-below}
use Rattle.ipam_block.specs.Order.{cidr_cmp, family_rank}
use Rattle.ipam_records.specs.declared.key.Key.TheVariants as key
use Rattle.ipam_records.specs.declared.record.Record.{Record}
use Rattle.ipam_records.specs.declared.record.Record.TheVariants as record_of
use Rattle.ipam_records.specs.Datastore.{Datastore, row_key, row_of}
use Rattle.ipam_records.specs.KeyOrder.{key_cmp}
use Rattle.ipam_records.specs.KeyOrderLaws.{cidr_cmp_total}
use Rattle.ipam_records.specs.Sound.{IsDatastore, IsRecord, IsRow}
use Rattle.ipam_model.specs.Consistent.{IsConsistent, IsSlotOfSome, cidr_named, pools_in, pools_in_row}
use Rattle.ipam_model.specs.History.{store_at}
use Rattle.ipam_model.specs.Moments.{Owns}
use Rattle.ipam_model.specs.OwnerLaw.{OwnersOrderLaw, OneOwnerLaw}
use Rattle.ipam_model.specs.Owners.{Owner, owner_of, owners_in_row, owners_in, owners, IsBefore, AreInOrder}
use Rattle.ipam_model.specs.Reads.{StoredRecord}
use Rattle.ipam_laws.proofs.Members.{all-of, in-cons, in-here, in-there, in-nothing, in-map, out-map}
use Rattle.ipam_laws.proofs.SlotsHistory.{consistent_law}
use Rattle.ipam_laws.proofs.SoundSteps.{row-there}

-- ---- lists whose members stand in a relation to those after

pub pairs-head : {X : Type 0} (R : X → X → Type 0) (x : X) (xs : List X) → AllPairs R (x ∷ xs) → (y : X) → Contains xs y → R x y
pairs-head R x xs h y (k, below, is) = subst (λ z. R x z) is (h zero (suc k) y (omega arith) (omega arith))

pub pairs-tail : {X : Type 0} (R : X → X → Type 0) (x : X) (xs : List X) → AllPairs R (x ∷ xs) → AllPairs R xs
pairs-tail R x xs h = λ i j d below within. h (suc i) (suc j) d (omega arith) (omega arith)

pairs-map : {X Y : Type 0} (R : X → X → Type 0) (S : Y → Y → Type 0) (f : X → Y) → ((x y : X) → R x y → S (f x) (f y)) → (xs : List X) → AllPairs R xs → AllPairs S (map f xs)
pairs-map R S f keeps [] h = λ i j d below within. absurd (omega arith)
pairs-map R S f keeps (x ∷ xs) h =
    AllPairs-cons S (f x) (map f xs)
    (all-of (λ y. S (f x) y) (map f xs) (λ y there. let (z, among, is) = out-map f y xs there in subst (λ w. S (f x) w) is (keeps x z (pairs-head R x xs h z among))))
    (pairs-map R S f keeps xs (pairs-tail R x xs h))

pairs-append : {X : Type 0} (R : X → X → Type 0) (xs ys : List X) → AllPairs R xs → AllPairs R ys → ((x y : X) → Contains xs x → Contains ys y → R x y) → AllPairs R (xs ++ ys)
pairs-append R [] ys h k cross = k
pairs-append R (x ∷ xs) ys h k cross =
    AllPairs-cons R x (xs ++ ys)
    (all-of (λ y. R x y) (xs ++ ys) (λ y there. elim (Contains-append_cases xs ys y there) [
      | inl own ↦ pairs-head R x xs h y own
      | inr other ↦ cross x y (in-here x xs) other
    ]))
    (pairs-append R xs ys (pairs-tail R x xs h) k (λ a b there. cross a b (in-there a x xs there)))

-- two members are the same, or stand one before the other
pub pairs-of : {X : Type 0} (R : X → X → Type 0) (xs : List X) → AllPairs R xs → (x y : X) → Contains xs x → Contains xs y → (x ≡ y) ⊎ (R x y ⊎ R y x)
pairs-of R [] h x y one other = absurd (in-nothing x one)
pairs-of R (z ∷ zs) h x y one other = elim (in-cons x z zs one) [
  | inl is ↦ elim (in-cons y z zs other) [
    | inl also ↦ inl (sym is ∙ also)
    | inr there ↦ inr (inl (subst (λ w. R w y) is (pairs-head R z zs h y there)))
  ]
  | inr there ↦ elim (in-cons y z zs other) [
    | inl is ↦ inr (inr (subst (λ w. R w x) is (pairs-head R z zs h x there)))
    | inr also ↦ pairs-of R zs (pairs-tail R z zs h) x y there also
  ]
]

-- where a member stands
place-of : {X : Type 0} (xs : List X) (x : X) → Contains xs x → (k : ℕ) × (slice_get xs k ≡ Some x)
place-of [] x h = absurd (in-nothing x h)
place-of (y ∷ ys) x h = elim (in-cons x y ys h) [
  | inl is ↦ (zero, ap Some is)
  | inr there ↦ let (k, at) = place-of ys x there in (suc k, at)
]

-- ---- the order of blocks

nat-cases : (x y : ℕ) → ((nat_cmp x y ≡ Less) × (x < y)) ⊎ (((nat_cmp x y ≡ Equal) × (x ≡ y)) ⊎ (nat_cmp x y ≡ Greater))
nat-cases x y = elim (cases_lt x y) [
  | inl below ↦ inl (sym (nat_cmp_is x y Less below), below)
  | inr above ↦ elim (cases_lt y x) [
    | inl behind ↦ inr (inr (sym (nat_cmp_is x y Greater behind)))
    | inr level ↦ let same : x ≡ y = omega arith in inr (inl (sym (nat_cmp_is x y Equal same), same))
  ]
]

same-rank : (f g : Family) → family_rank f ≡ family_rank g → f ≡ g
same-rank V4 V4 e = refl
same-rank V6 V6 e = refl
same-rank V4 V6 e = absurd (omega arith)
same-rank V6 V4 e = absurd (omega arith)

cidr-less : (r s : CidrValue) → cidr_cmp r s ≡ Less → (family_rank r.family < family_rank s.family) ⊎ ((r.family ≡ s.family) × (r.base ≤ s.base))
cidr-less r s e = elim (nat-cases (family_rank r.family) (family_rank s.family)) [
  | inl less ↦ inl less.1
  | inr (inl same) ↦ elim (nat-cases r.base s.base) [
    | inl less ↦ inr (same-rank r.family s.family same.1, omega (arith, less.1))
    | inr (inl level) ↦ inr (same-rank r.family s.family same.1, omega (arith, level.1))
    | inr (inr greater) ↦
        let f : cidr_cmp r s ≡ Greater = rw (same.0, greater) refl in
        absurd (cc (e, f))
  ]
  | inr (inr greater) ↦
      let f : cidr_cmp r s ≡ Greater = rw greater refl in
      absurd (cc (e, f))
]

-- ---- blocks at slots do not overlap

size-some : (r : CidrValue) → 0 < cidr_size r
size-some r = let some = one-le-pow (width r.family - r.prefix) 2 (omega arith) in omega arith

-- a slot that holds an address
slot-holds : (pools : List Pool) (cidr : CidrValue) (address : AddrValue) → Holds cidr address → IsSlotOfSome pools cidr → (slot : ℕ × ℕ) × LiesInSlot pools address slot × ((pool : Pool) → slice_get pools slot.0 ≡ Some pool → cidr ≡ slot_of pool.cidr pool.size slot.1)
slot-holds pools cidr address holds (pool, among, at) =
    let (place, there) = place-of pools pool among in (
      (place, at.number),
      record { pool = pool; at_place = there; within = at.within; holds = subst (λ (x : CidrValue). Holds x address) at.is holds },
      λ other other_there. let same : pool ≡ other = cc (there, other_there) in at.is ∙ ap (λ (p : Pool). slot_of p.cidr p.size at.number) same,
    )

-- two slots that hold an address are the same
pub same-slot : (pools : List Pool) (one other : CidrValue) (address : AddrValue) → IsPoolTable pools → IsSlotOfSome pools one → IsSlotOfSome pools other → Holds one address → Holds other address → one ≡ other
same-slot pools one other address table first second holds also =
    let (slot, lies, is) = slot-holds pools one address holds first in
    let (slot', lies', is') = slot-holds pools other address also second in
    let same : slot ≡ slot' = at_most_one pools address table slot slot' lies lies' in
    let there = lies.at_place in
    let there' : slice_get pools slot'.0 ≡ Some lies.pool = ap (λ (s : ℕ × ℕ). slice_get pools s.0) (sym same) ∙ there in
    is lies.pool there ∙ (ap (λ (s : ℕ × ℕ). slot_of lies.pool.cidr lies.pool.size s.1) same ∙ sym (is' lies.pool there'))

-- a block of the same family that begins after another begins after its end
slots-apart : (pools : List Pool) (r s : CidrValue) → IsPoolTable pools → IsSlotOfSome pools r → IsSlotOfSome pools s → r ≢ s → r.family ≡ s.family → r.base ≤ s.base → cidr_end r ≤ s.base
slots-apart pools r s table first second differ family level = elim (cases_lt s.base (cidr_end r)) [
  | inl inside ↦
      let some = size-some s in
      let one : Holds r (first_address s) = record { same_family = sym family; from_base = level; below_end = inside } in
      let other : Holds s (first_address s) = record { same_family = refl; from_base = omega arith; below_end = omega arith } in
      absurd (differ (same-slot pools r s (first_address s) table first second one other))
  | inr behind ↦ behind
]

-- ---- owners of blocks

-- the owners of one block
block-order : (b : block.BlockValue) → IsBlock b → AreInOrder (map (owner_of b.cidr) b.allocations)
block-order b h =
    pairs-map (λ (x y : Allocation). x.ordinal < y.ordinal) (λ (o p : Owner). IsBefore o.address p.address) (owner_of b.cidr)
    (λ x y less. inr (refl, omega arith)) b.allocations h.ascending

-- an address of a block lies in it
pub owned-inside : (b : block.BlockValue) (o : Owner) → IsBlock b → Contains (map (owner_of b.cidr) b.allocations) o → (o.address.family ≡ b.cidr.family) × (b.cidr.base ≤ o.address.number) × (o.address.number < cidr_end b.cidr)
owned-inside b o h there =
    let (a, among, is) = out-map (owner_of b.cidr) o b.allocations there in
    let all = shared-below b h in
    let below : a.ordinal < cidr_size b.cidr = All-contains (λ (n : ℕ). n < cidr_size b.cidr) (held_ordinals b.allocations ++ b.queue) a.ordinal all (Contains-append_left (held_ordinals b.allocations) b.queue a.ordinal (in-map (λ (x : Allocation). x.ordinal) a b.allocations among)) in
    let inside : (b.cidr.family ≡ b.cidr.family) × (b.cidr.base ≤ b.cidr.base + a.ordinal) × (b.cidr.base + a.ordinal < cidr_end b.cidr) = (refl, omega arith, omega arith) in
    subst (λ (x : Owner). (x.address.family ≡ b.cidr.family) × (b.cidr.base ≤ x.address.number) × (x.address.number < cidr_end b.cidr)) is inside

-- those of a block before those of a later one
blocks-order : (pools : List Pool) (b c : block.BlockValue) (o p : Owner) → IsPoolTable pools → IsBlock b → IsBlock c → IsSlotOfSome pools b.cidr → IsSlotOfSome pools c.cidr → cidr_cmp b.cidr c.cidr ≡ Less
    → Contains (map (owner_of b.cidr) b.allocations) o → Contains (map (owner_of c.cidr) c.allocations) p → IsBefore o.address p.address
blocks-order pools b c o p table h k first second less one other =
    let (family, from, below) = owned-inside b o h one in
    let (family', from', below') = owned-inside c p k other in
    elim (cidr-less b.cidr c.cidr less) [
      | inl ranks ↦ inl (rw (family, family') ranks)
      | inr (same, level) ↦
          let differ : b.cidr ≢ c.cidr = λ e. let itself : cidr_cmp b.cidr b.cidr ≡ Less = ap (cidr_cmp b.cidr) e ∙ less in cc (itself, tied_itself cidr_cmp_total b.cidr) in
          let apart = slots-apart pools b.cidr c.cidr table first second differ same level in
          inr (family ∙ (same ∙ sym family'), omega arith)
    ]

-- ---- owners of rows

-- the rows are sound, and their blocks lie at slots
record ArePlaced (pools : List Pool) (rows : List StoredRecord) : Type 0 where
  sound : (row : StoredRecord) → Contains rows row → IsRecord row.1
  slots : (row : StoredRecord) (cidr : CidrValue) → Contains rows row → cidr_named (row_key row) ≡ Some cidr → IsSlotOfSome pools cidr

-- the block of a later row whose owner it is
later-owner : (k : CidrValue) (rows : List StoredRecord) (p : Owner) → AllByRecursion (λ z. key_cmp (key.Block k) z ≡ Less) (map row_key rows) → Contains (owners_in rows) p
    → (revision : ℕ) × (c : block.BlockValue) × Contains rows (revision, record_of.Block c) × Contains (map (owner_of c.cidr) c.allocations) p × (cidr_cmp k c.cidr ≡ Less)
later-owner k [] p less there = absurd (in-nothing p there)
later-owner k ((revision, found) ∷ rows) p less there = by found less.0 (Contains-append_cases (owners_in_row (revision, found)) (owners_in rows) p there) (λ other. later-owner k rows p less.1 other)
  where
    by : (f : Record) → key_cmp (key.Block k) (row_key (revision, f)) ≡ Less → Contains (owners_in_row (revision, f)) p ⊎ Contains (owners_in rows) p
        → (Contains (owners_in rows) p → (r : ℕ) × (c : block.BlockValue) × Contains rows (r, record_of.Block c) × Contains (map (owner_of c.cidr) c.allocations) p × (cidr_cmp k c.cidr ≡ Less))
        → (r : ℕ) × (c : block.BlockValue) × Contains ((revision, f) ∷ rows) (r, record_of.Block c) × Contains (map (owner_of c.cidr) c.allocations) p × (cidr_cmp k c.cidr ≡ Less)
    by (record_of.Block c) behind (inl own) rest = (revision, c, in-here (revision, record_of.Block c) rows, own, behind)
    by (record_of.Config config) behind (inl own) rest = absurd (in-nothing p own)
    by (record_of.Pools pools) behind (inl own) rest = absurd (in-nothing p own)
    by (record_of.Reservations reservations) behind (inl own) rest = absurd (in-nothing p own)
    by (record_of.Affinity a) behind (inl own) rest = absurd (in-nothing p own)
    by (record_of.Handle handle) behind (inl own) rest = absurd (in-nothing p own)
    by f behind (inr other) rest =
        let (r, c, among, own, less') = rest other in
        (r, c, in-there (r, record_of.Block c) (revision, f) rows among, own, less')

rows-order : (pools : List Pool) (rows : List StoredRecord) → IsPoolTable pools → IsStrictlySortedBy key_cmp (map row_key rows) → ArePlaced pools rows → AreInOrder (owners_in rows)
unfolding IsStrictlySortedBy
rows-order pools [] table sorted placed = λ i j d below within. absurd (omega arith)
rows-order pools ((revision, found) ∷ rows) table sorted placed =
    by found sorted.0 (placed.sound (revision, found) (in-here (revision, found) rows)) (λ cidr named. placed.slots (revision, found) cidr (in-here (revision, found) rows) named)
    (rows-order pools rows table sorted.1 (record {
      sound = λ row there. placed.sound row (in-there row (revision, found) rows there);
      slots = λ row cidr there named. placed.slots row cidr (in-there row (revision, found) rows there) named;
    }))
  where
    by : (f : Record) → AllByRecursion (λ z. key_cmp (row_key (revision, f)) z ≡ Less) (map row_key rows) → IsRecord f → ((cidr : CidrValue) → cidr_named (row_key (revision, f)) ≡ Some cidr → IsSlotOfSome pools cidr) → AreInOrder (owners_in rows) → AreInOrder (owners_in_row (revision, f) ++ owners_in rows)
    by (record_of.Block b) less sound slot rest =
        pairs-append (λ (o p : Owner). IsBefore o.address p.address) (map (owner_of b.cidr) b.allocations) (owners_in rows) (block-order b sound.block) rest
        (λ o p one other.
        let (r, c, among, own, behind) = later-owner b.cidr rows p less other in
        let later = placed.sound (r, record_of.Block c) (in-there (r, record_of.Block c) (revision, found) rows among) in
        let later_slot = placed.slots (r, record_of.Block c) c.cidr (in-there (r, record_of.Block c) (revision, found) rows among) refl in
        blocks-order pools b c o p table sound.block later.block (slot b.cidr refl) later_slot behind one own)
    by (record_of.Config config) less sound slot rest = rest
    by (record_of.Pools list) less sound slot rest = rest
    by (record_of.Reservations reservations) less sound slot rest = rest
    by (record_of.Affinity a) less sound slot rest = rest
    by (record_of.Handle handle) less sound slot rest = rest

-- the pools of a sound datastore are a table
pub pools-table : (store : Datastore) → IsDatastore store → IsPoolTable (pools_in store.rows)
pools-table store sound = from (row_of key.Pools store.rows) refl
  where
    none : IsPoolTable []
    none = record {
      few = omega arith;
      ranges = λ k d within. absurd (omega arith);
      sizes = λ k d within. absurd (omega arith);
      names = λ i j d below within. absurd (omega arith);
      apart = λ i j d below within. absurd (omega arith);
    }

    from : (o : Option StoredRecord) → row_of key.Pools store.rows ≡ o → IsPoolTable (pools_in_row o)
    from None e = none
    from (Some (revision, record_of.Pools pools)) e = (row-there store key.Pools revision (record_of.Pools pools) sound e).is_record.table
    from (Some (revision, record_of.Config config)) e = none
    from (Some (revision, record_of.Reservations reservations)) e = none
    from (Some (revision, record_of.Block b)) e = none
    from (Some (revision, record_of.Affinity a)) e = none
    from (Some (revision, record_of.Handle handle)) e = none

-- ---- the laws

pub owners_order : OwnersOrderLaw
owners_order store c =
    rows-order (pools_in store.rows) store.rows (pools-table store c.sound) c.sound.ascending (record {
      sound = λ row there. (All-contains (IsRow store.counter) store.rows row c.sound.rows there).is_record;
      slots = λ row cidr there named. c.at_slots row cidr there named;
    })

before-other : (a b : AddrValue) → IsBefore a b → a ≢ b
before-other a b (inl ranks) e = let same = ap (λ (x : AddrValue). family_rank x.family) e in omega arith
before-other a b (inr (family, below)) e = let same = ap (λ (x : AddrValue). x.number) e in omega arith

pub same-owner : (store : Datastore) → IsConsistent store → (one other : Owner) → Owns store one → Owns store other → one.address ≡ other.address → one ≡ other
same-owner store c one other first second same =
    elim (pairs-of (λ (o p : Owner). IsBefore o.address p.address) (owners store) (owners_order store c) one other first second) [
      | inl is ↦ is
      | inr (inl before) ↦ absurd (before-other one.address other.address before same)
      | inr (inr behind) ↦ absurd (before-other other.address one.address behind (sym same))
    ]

pub one_owner : OneOwnerLaw
one_owner base history c h one other first second same = same-owner (store_at base history) (consistent_law base history c h) one other first second same
