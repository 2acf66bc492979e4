-- The first slot without a block that has an unreserved address.
use native.Mathlib.Omega.{arith}
use Rattle.std.proofs.Common.{◌≡◌, ℕ, ◌+◌, ◌<◌, ◌≤◌, ◌&&◌, inl, inr, Bool, true, false, cond, Option, Some, is_none, List, [], ◌∷◌, ◌++◌, refl, sym, ap, ap₂, ◌∙◌, subst, find, append_assoc}
use Rattle.std.proofs.lemmas.Bool.{cases_lt, cases_order}
use Rattle.std.proofs.lemmas.List.{append-nil}
use Rattle.std.specs.declared.cmp.Ordering.{Ordering}
use Rattle.std.specs.declared.cmp.Ordering.TheVariants.{Less, Equal, Greater}
use Rattle.std.specs.Ordering.{is_eq, ordering_reverse}
use Rattle.std.specs.Cmp.{tied_itself}
use Rattle.std.specs.List.Sorted.{IsStrictlySortedBy}
use Rattle.ipam_addr.specs.Shape.{CidrValue}
use Rattle.ipam_addr.specs.Slots.{last_slot_of, slot_of}
use Rattle.ipam_block.specs.Shape as block
use Rattle.ipam_block.specs.Order.{cidr_cmp}
use Rattle.ipam_pool.specs.declared.pools.Pool.{Pool}
use Rattle.ipam_pool.specs.Spans.{ReservedValue, is_reserved_by}
use Rattle.ipam_pool.specs.Free.{IsFull, HasRoom, IsNextSlot, AreFullFrom}
use Rattle.ipam_records.specs.declared.record.Record.TheVariants as record_of
use Rattle.ipam_records.specs.KeyOrderLaws.{cidr_cmp_total, cidrs_same}
use Rattle.ipam_model.specs.Reads.{StoredRecord}
use Rattle.ipam_model.specs.Usable.{is_same_cidr}
use Rattle.ipam_model.specs.Choice.{is_block_at, block_in_found}
use Rattle.ipam_choice.specs.First.{Has}
use Rattle.ipam_choice.specs.Blocks.{cidrs_in, IsPartFrom}
use Rattle.ipam_choice.specs.Sight.{block_under, has_free}
use Rattle.ipam_choice.specs.Scanned.{IsFirstBare, is_bare_slot}
use Rattle.ipam_choice.proofs.RoomLemmas.{has_free-full, has_free-room}
use Rattle.ipam_choice.proofs.AheadLemmas.{has_parted, stands_behind}
use Rattle.ipam_choice.proofs.PoolLemmas.{slots_ascend}

-- no slot of a lower number is bare
abbrev pub NoneBareBelow : ReservedValue → List StoredRecord → Pool → ℕ → Type 0
NoneBareBelow r rows pool from =
    (j : ℕ) → j < from → is_bare_slot (is_reserved_by r) rows pool j ≡ false

and-false : (b : Bool) → (b && false) ≡ false
and-false true = refl
and-false false = refl

is_equal : (o : Ordering) → is_eq o ≡ true → o ≡ Equal
is_equal Less e = absurd (cc e)
is_equal Equal e = refl
is_equal Greater e = absurd (cc e)

-- ---- whether there is a block
same_there : (cidr slot : CidrValue) → cidr ≡ slot → is_same_cidr cidr slot ≡ true
same_there cidr slot same =
    subst (λ (c : CidrValue). is_same_cidr cidr c ≡ true) same (ap is_eq (tied_itself cidr_cmp_total cidr))

module _ (slot : CidrValue) where
  abbrev found_if : Bool → ℕ → block.BlockValue → List StoredRecord → Option (ℕ × block.BlockValue)
  found_if v revision b rows = block_in_found (cond v (Some (revision, record_of.Block b)) (find (is_block_at slot) rows))

  pub block_there : (rows : List StoredRecord) → Has slot (cidrs_in rows) → is_none (block_under rows slot) ≡ false
  block_there [] has = absurd has
  block_there ((revision, record_of.Config c) ∷ rows) has = block_there rows has
  block_there ((revision, record_of.Pools p) ∷ rows) has = block_there rows has
  block_there ((revision, record_of.Reservations r) ∷ rows) has = block_there rows has
  block_there ((revision, record_of.Block b) ∷ rows) (inl same) = ap (λ (v : Bool). is_none (found_if v revision b rows)) (same_there b.cidr slot same)
  block_there ((revision, record_of.Block b) ∷ rows) (inr later) =
      elim (is_same_cidr b.cidr slot) as (λ v. is_none (found_if v revision b rows) ≡ false) [
        | true ↦ refl
        | false ↦ block_there rows later
      ]
  block_there ((revision, record_of.Affinity a) ∷ rows) has = block_there rows has
  block_there ((revision, record_of.Handle h) ∷ rows) has = block_there rows has

  pub no_block_there : (rows : List StoredRecord) → (Has slot (cidrs_in rows) → ⊥) → is_none (block_under rows slot) ≡ true
  no_block_there [] none = refl
  no_block_there ((revision, record_of.Config c) ∷ rows) none = no_block_there rows none
  no_block_there ((revision, record_of.Pools p) ∷ rows) none = no_block_there rows none
  no_block_there ((revision, record_of.Reservations r) ∷ rows) none = no_block_there rows none
  no_block_there ((revision, record_of.Block b) ∷ rows) none = by (no_block_there rows (λ later. none (inr later))) (is_same_cidr b.cidr slot) refl
    where
      by : is_none (block_under rows slot) ≡ true → (v : Bool) → is_same_cidr b.cidr slot ≡ v → is_none (found_if v revision b rows) ≡ true
      by rest true same = absurd (none (inl (cidrs_same b.cidr slot (is_equal (cidr_cmp b.cidr slot) same))))
      by rest false other = rest
  no_block_there ((revision, record_of.Affinity a) ∷ rows) none = no_block_there rows none
  no_block_there ((revision, record_of.Handle h) ∷ rows) none = no_block_there rows none

-- ---- what is after something is not it
not_itself : (c : CidrValue) → cidr_cmp c c ≡ Less → ⊥
not_itself c less = absurd (cc (tied_itself cidr_cmp_total c, less))

behind_less : (c d : CidrValue) → cidr_cmp c d ≡ Greater → cidr_cmp d c ≡ Less
behind_less c d greater = cidr_cmp_total.antisymm d c ∙ ap ordering_reverse greater

-- ---- along the slots and the blocks
module _ (r : ReservedValue) (rows : List StoredRecord) (pool : Pool) where
  abbrev at : ℕ → CidrValue
  at k = slot_of pool.cidr pool.size k

  abbrev bare : ℕ → Bool
  bare k = is_bare_slot (is_reserved_by r) rows pool k

  -- none in front of this slot, which has room, is bare, and the blocks that were passed stand before it
  pub record Walks (left : List CidrValue) (k : ℕ) : Type 0 where
    pub seen : List CidrValue
    pub parted : cidrs_in rows ≡ seen ++ left
    pub before : (c : CidrValue) → Has c seen → cidr_cmp c (at k) ≡ Less
    pub none : NoneBareBelow r rows pool k
    pub within : k ≤ last_slot_of pool.cidr pool.size
    pub room : HasRoom r (at k)

  full_not_bare : (k : ℕ) → IsFull r (at k) → bare k ≡ false
  full_not_bare k full =
      ap (λ b. is_none (block_under rows (at k)) && b) (has_free-full r (at k) full)
      ∙ and-false (is_none (block_under rows (at k)))

  up_to : (from k : ℕ) → NoneBareBelow r rows pool from → ((j : ℕ) → from ≤ j → j < k → IsFull r (at j)) → NoneBareBelow r rows pool k
  up_to from k below full j less = elim (cases_lt j from) [
    | inl before ↦ below j before
    | inr behind ↦ full_not_bare j (full j behind less)
  ]

  below_less : (c : CidrValue) (j k : ℕ) → j ≤ k → cidr_cmp c (at j) ≡ Less → cidr_cmp c (at k) ≡ Less
  below_less c j k up less = elim (cases_order j k) [
    | inl same ↦ subst (λ (n : ℕ). cidr_cmp c (at n) ≡ Less) same less
    | inr (inl before) ↦ cidr_cmp_total.trans c (at j) (at k) less (slots_ascend pool.cidr pool.size j k before)
    | inr (inr after) ↦ absurd (omega arith)
  ]

  pub begins : (first : CidrValue) (left : List CidrValue) (k : ℕ) → first ≡ at 0 → IsPartFrom first (cidrs_in rows) left → IsNextSlot r pool.cidr pool.size 0 k → Walks left k
  begins first left k is part next = record {
    seen = part.seen;
    parted = part.parted;
    before = λ c has. below_less c 0 k (omega arith) (subst (λ (d : CidrValue). cidr_cmp c d ≡ Less) is (part.before c has));
    none = up_to 0 k (λ j less. absurd (omega arith)) next.least;
    within = next.within;
    room = next.room;
  }

  module _ (c : CidrValue) (left : List CidrValue) (k : ℕ) (walks : Walks (c ∷ left) k) where
    abbrev seen_now : List CidrValue
    seen_now = walks.seen ++ c ∷ []

    parted_now : cidrs_in rows ≡ seen_now ++ left
    parted_now = walks.parted ∙ sym (append_assoc walks.seen (c ∷ []) left)

    before_now : (n : ℕ) → k ≤ n → cidr_cmp c (at n) ≡ Less → (d : CidrValue) → Has d seen_now → cidr_cmp d (at n) ≡ Less
    before_now n up less d has = elim (has_parted walks.seen (c ∷ []) d has) [
      | inl earlier ↦ below_less d k n up (walks.before d earlier)
      | inr last ↦ elim last [
        | inl same ↦ subst (λ (x : CidrValue). cidr_cmp x (at n) ≡ Less) same less
        | inr none ↦ absurd none
      ]
    ]

    -- the block stands before the slot
    pub passes : cidr_cmp c (at k) ≡ Less → Walks left k
    passes less = record {
      seen = seen_now;
      parted = parted_now;
      before = before_now k (omega arith) less;
      none = walks.none;
      within = walks.within;
      room = walks.room;
    }

    among : (xs : List CidrValue) → Has c (xs ++ c ∷ left)
    among [] = inl refl
    among (x ∷ xs) = inr (among xs)

    -- the block is at the slot
    taken : cidr_cmp c (at k) ≡ Equal → NoneBareBelow r rows pool (k + 1)
    taken equal j less = elim (cases_order j k) [
      | inl same ↦
          let has : Has (at k) (cidrs_in rows) =
          subst (λ (x : CidrValue). Has x (cidrs_in rows)) (cidrs_same c (at k) equal)
          (subst (λ (xs : List CidrValue). Has c xs) (sym walks.parted) (among walks.seen)) in
          subst (λ (m : ℕ). bare m ≡ false) (sym same)
          (ap (λ b. b && has_free (is_reserved_by r) (at k)) (block_there (at k) rows has))
      | inr (inl before) ↦ walks.none j before
      | inr (inr after) ↦ absurd (omega arith)
    ]

    pub takes : (n : ℕ) → cidr_cmp c (at k) ≡ Equal → IsNextSlot r pool.cidr pool.size (k + 1) n → Walks left n
    takes n equal next =
        let above : k < n = omega (arith, next.above) in
        let less : cidr_cmp c (at n) ≡ Less =
        subst (λ (x : CidrValue). cidr_cmp x (at n) ≡ Less) (sym (cidrs_same c (at k) equal)) (slots_ascend pool.cidr pool.size k n above) in
        record {
          seen = seen_now;
          parted = parted_now;
          before = before_now n (omega arith) less;
          none = up_to (k + 1) n (taken equal) next.least;
          within = next.within;
          room = next.room;
        }

    pub takes_last : cidr_cmp c (at k) ≡ Equal → AreFullFrom r pool.cidr pool.size (k + 1) → (j : ℕ) → j ≤ last_slot_of pool.cidr pool.size → bare j ≡ false
    takes_last equal full j within = elim (cases_lt j (k + 1)) [
      | inl before ↦ taken equal j before
      | inr behind ↦ full_not_bare j (full j behind within)
    ]

    -- the block stands after the slot
    none_here : IsStrictlySortedBy cidr_cmp (cidrs_in rows) → cidr_cmp c (at k) ≡ Greater → Has (at k) (cidrs_in rows) → ⊥
    none_here ascends greater has =
        let less = behind_less c (at k) greater in
        elim (has_parted walks.seen (c ∷ left) (at k) (subst (λ (xs : List CidrValue). Has (at k) xs) walks.parted has)) [
          | inl earlier ↦ not_itself (at k) (walks.before (at k) earlier)
          | inr (inl same) ↦ not_itself (at k) (subst (λ (x : CidrValue). cidr_cmp (at k) x ≡ Less) same less)
          | inr (inr later) ↦ not_itself (at k) (cidr_cmp_total.trans (at k) c (at k) less (stands_behind walks.seen c left (subst (IsStrictlySortedBy cidr_cmp) walks.parted ascends) (at k) later))
        ]

    pub stands_bare : IsStrictlySortedBy cidr_cmp (cidrs_in rows) → cidr_cmp c (at k) ≡ Greater → IsFirstBare (is_reserved_by r) rows pool k
    stands_bare ascends greater = record {
      within = walks.within;
      bare = ap₂ (λ a b. a && b) (no_block_there (at k) rows (none_here ascends greater)) (has_free-room r (at k) walks.room);
      least = walks.none;
    }

  -- no block is left
  pub ends_bare : (k : ℕ) → Walks [] k → IsFirstBare (is_reserved_by r) rows pool k
  ends_bare k walks =
      let none : Has (at k) (cidrs_in rows) → ⊥ = λ has. not_itself (at k) (walks.before (at k) (subst (λ (xs : List CidrValue). Has (at k) xs) (walks.parted ∙ append-nil walks.seen) has)) in
      record {
        within = walks.within;
        bare = ap₂ (λ a b. a && b) (no_block_there (at k) rows none) (has_free-room r (at k) walks.room);
        least = walks.none;
      }

  pub none_bare : AreFullFrom r pool.cidr pool.size 0 → (k : ℕ) → k ≤ last_slot_of pool.cidr pool.size → bare k ≡ false
  none_bare full k within = full_not_bare k (full k (omega arith) within)
