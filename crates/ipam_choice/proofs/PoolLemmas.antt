-- The first slot of a pool that has a rank.
use native.Mathlib.Omega.{arith}
use Rattle.std.proofs.Common.{◌≡◌, ℕ, ◌+◌, ◌-◌, ◌<◌, ◌≤◌, ◌&&◌, ◌⊎◌, inl, inr, Bool, true, false, cond, List, Option, Some, None, is_none, refl, sym, ap, ap₂, ◌∙◌, subst, nat_le}
use Rattle.std.specs.Prelude.{◌==◌, IfSome}
use Rattle.std.proofs.lemmas.Bool.{cases_lt}
use Rattle.std.proofs.lemmas.Nat.{pow_pos, row_fits}
use Rattle.std.specs.declared.cmp.Ordering.{Ordering}
use Rattle.std.specs.declared.cmp.Ordering.TheVariants.{Less, Equal}
use Rattle.std.specs.Ordering.{nat_cmp, ordering_then}
use Rattle.std.specs.Cmp.{nat_cmp_is}
use Rattle.std.specs.List.Sorted.{IsStrictlySortedBy}
use Rattle.std.specs.Option.{option_or}
use Rattle.ipam_addr.specs.Shape.{CidrValue}
use Rattle.ipam_addr.specs.Width.{IsCidr, width, size_of}
use Rattle.ipam_addr.specs.Slots.{HasSlots, last_slot_of, slot_of}
use Rattle.ipam_block.specs.Shape as block
use Rattle.ipam_block.specs.Order.{family_rank, cidr_cmp}
use Rattle.ipam_records.specs.KeyOrderLaws.{cidr_cmp_total}
use Rattle.ipam_pool.specs.declared.pools.Pool.{Pool}
use Rattle.ipam_pool.specs.Slots.{IsSlotOf, is_slot_of}
use Rattle.ipam_pool.proofs.SlotsLemmas.{slot_from_test, test_of_slot}
use Rattle.ipam_model.specs.Choice.{Rank, rank_number, Unclaimed as UnclaimedRank, Ranked, if_rank}
use Rattle.ipam_choice.specs.declared.picked.Candidate.{Candidate}
use Rattle.ipam_choice.specs.Picked.{ranked_as, ranked_in}
use Rattle.ipam_choice.specs.declared.level.Level.{Level}
use Rattle.ipam_choice.specs.declared.level.Level.TheVariants.{Own, Unconfirmed, Unclaimed, Foreign}
use Rattle.ipam_choice.specs.Level.{level_number}
use Rattle.ipam_choice.specs.First.{first_of, earlier, found_there, Has}
use Rattle.ipam_choice.specs.Sight.{Sight, IsSlotted, block_under, rank_of_found, rank_listed, has_free, rank_bare, rank_in_sight, if_slot, first_ranked, first_in}
use Rattle.ipam_choice.specs.Scanned.{IsListFor, is_lower, lower, IsFirstBare, is_bare_slot}
use Rattle.ipam_choice.proofs.FirstLemmas.{first_found-is, first_found-nothing, first_found-some, first_found-either, earlier-none, first_of-none, first_of-some}
use Rattle.ipam_choice.proofs.ListedLemmas.{complete}

-- ---- the order of slots

slot_bases : (pool : CidrValue) (size j k : ℕ) → j < k → (slot_of pool size j).base < (slot_of pool size k).base
slot_bases pool size j k less =
    let d = size_of pool.family size in
    let some = pow_pos (width pool.family - size) in
    omega (arith, row_fits j d k d less (omega arith))

pub slots_ascend : (pool : CidrValue) (size j k : ℕ) → j < k → cidr_cmp (slot_of pool size j) (slot_of pool size k) ≡ Less
slots_ascend pool size j k less =
    let family : nat_cmp (family_rank pool.family) (family_rank pool.family) ≡ Equal = sym (nat_cmp_is (family_rank pool.family) (family_rank pool.family) Equal refl) in
    let base : nat_cmp (slot_of pool size j).base (slot_of pool size k).base ≡ Less = sym (nat_cmp_is (slot_of pool size j).base (slot_of pool size k).base Less (slot_bases pool size j k less)) in
    ap (λ (o : Ordering). ordering_then o (ordering_then (nat_cmp (slot_of pool size j).base (slot_of pool size k).base) (nat_cmp size size))) family
    ∙ ap (λ (o : Ordering). ordering_then o (nat_cmp size size)) base

-- ---- a slot with a rank

if_rank-slot : (number : ℕ) (slot : CidrValue) (o : Option Rank) (x : Ranked) → if_rank number slot o ≡ Some x → x.slot ≡ slot
if_rank-slot number slot None x e = absurd (cc e)
if_rank-slot number slot (Some rank) x e = by (rank_number rank == number) e
  where
    by : (b : Bool) → cond b (Some (record { slot = slot; rank = rank })) None ≡ Some x → x.slot ≡ slot
    by true f = let same : record { slot = slot; rank = rank } ≡ x = cc f in sym (ap (λ (r : Ranked). r.slot) same)
    by false f = absurd (cc f)

-- ---- the first of a list that has all slots of the rank
module _ (rank : CidrValue → Option Rank) (number : ℕ) (pool : Pool) (list : List CidrValue)
    (range : IsCidr pool.cidr) (slots : HasSlots pool.cidr pool.size) (ascends : IsStrictlySortedBy cidr_cmp list)
    (has_all : (k : ℕ) (x : Ranked) → k ≤ last_slot_of pool.cidr pool.size → if_rank number (slot_of pool.cidr pool.size k) (rank (slot_of pool.cidr pool.size k)) ≡ Some x → Has (slot_of pool.cidr pool.size k) list) where
  abbrev at : ℕ → CidrValue
  at k = slot_of pool.cidr pool.size k

  abbrev finds : ℕ → Option Ranked
  finds k = if_rank number (at k) (rank (at k))

  abbrev in_list : CidrValue → Option Ranked
  in_list = if_slot rank number pool

  slot_passes : (k : ℕ) → k ≤ last_slot_of pool.cidr pool.size → in_list (at k) ≡ finds k
  slot_passes k within = ap (λ (b : Bool). cond b (finds k) None) (test_of_slot pool (at k) slots (record { number = k; within = within; is = refl }))

  -- where the list has nothing at a slot, the slot has not the rank
  nothing_there : (k : ℕ) → k ≤ last_slot_of pool.cidr pool.size → (Has (at k) list → in_list (at k) ≡ None) → finds k ≡ None
  nothing_there k within none = by (finds k) refl
    where
      by : (o : Option Ranked) → finds k ≡ o → finds k ≡ None
      by None is = is
      by (Some x) is = sym (slot_passes k within) ∙ none (has_all k x within is)

  from_slot : (x : Ranked) (item : CidrValue) → (if_rank number item (rank item) ≡ Some x) → IsSlotOf pool item → ((c : CidrValue) → Has c list → cidr_cmp c item ≡ Less → in_list c ≡ None) → found_there (first_ranked rank number pool) ≡ Some x
  from_slot x item is slot least =
      let there : finds slot.number ≡ Some x = subst (λ (c : CidrValue). if_rank number c (rank c) ≡ Some x) slot.is is in
      let before : (j : ℕ) → 0 ≤ j → j < slot.number → finds j ≡ None = λ j up less.
      nothing_there j (omega (arith, slot.within)) (λ has. least (at j) has (subst (λ (c : CidrValue). cidr_cmp (at j) c ≡ Less) (sym slot.is) (slots_ascend pool.cidr pool.size j slot.number less))) in
      ap found_there (first_found-is finds (last_slot_of pool.cidr pool.size + 1) 0 slot.number x (omega arith) (omega (arith, slot.within)) there before)

  pub first_of_list : ((x : Ranked) → first_of in_list list ≡ Some x → IsCidr x.slot) → first_of in_list list ≡ found_there (first_ranked rank number pool)
  first_of_list sound = by (first_of in_list list) refl
    where
      some : (x : Ranked) (item : CidrValue) → IsCidr x.slot → ((c : CidrValue) → Has c list → cidr_cmp c item ≡ Less → in_list c ≡ None) → (b : Bool) → is_slot_of pool item ≡ b → cond b (if_rank number item (rank item)) None ≡ Some x → found_there (first_ranked rank number pool) ≡ Some x
      some x item whole least true test f =
          let own : IsCidr item = subst IsCidr (if_rank-slot number item (rank item) x f) whole in
          from_slot x item f (slot_from_test pool item range slots own test) least
      some x item whole least false test f = absurd (cc f)

      by : (o : Option Ranked) → first_of in_list list ≡ o → first_of in_list list ≡ found_there (first_ranked rank number pool)
      by (Some x) is =
          let first = first_of-some cidr_cmp cidr_cmp_total in_list list ascends x is in
          is ∙ sym (some x first.item (sound x is) first.least (is_slot_of pool first.item) refl first.there)
      by None is =
          is ∙ sym (ap found_there (first_found-nothing finds (last_slot_of pool.cidr pool.size + 1) 0 (λ j up below.
          nothing_there j (omega arith) (λ has. first_of-none in_list list is (at j) has))))

-- the blocks of which some may have the rank, as far as they may lie in the pool
pub with_block : (sight : Sight) (level : Level) (pool : Pool) (whole list : List CidrValue) → IsListFor sight level whole → IsSlotted pool → IsStrictlySortedBy cidr_cmp list
    → ((k : ℕ) → k ≤ last_slot_of pool.cidr pool.size → Has (slot_of pool.cidr pool.size k) whole → Has (slot_of pool.cidr pool.size k) list)
    → ((x : Ranked) → first_of (if_slot (rank_listed sight) (level_number level) pool) list ≡ Some x → IsCidr x.slot)
    → first_of (if_slot (rank_listed sight) (level_number level) pool) list ≡ found_there (first_ranked (rank_listed sight) (level_number level) pool)
with_block sight level pool whole list all slotted ascends kept sound =
    first_of_list (rank_listed sight) (level_number level) pool list slotted.range slotted.slots ascends
    (λ k x within is. kept k within (complete sight level whole (slot_of pool.cidr pool.size k) x all is)) sound

-- ---- slots without a block
module _ (sight : Sight) (pool : Pool) where
  abbrev slot_at : ℕ → CidrValue
  slot_at k = slot_of pool.cidr pool.size k

  abbrev bare_at : ℕ → Bool
  bare_at k = is_bare_slot sight.reserved sight.blocks pool k

  abbrev if_bare : ℕ → CidrValue → Bool → Option Ranked
  if_bare number slot b = if_rank number slot (cond b (Some (UnclaimedRank None)) None)

  none_claimed : (may b : Bool) (k : ℕ) → may ≡ false → if_bare 2 (slot_at k) (may && b) ≡ None
  none_claimed true b k is = absurd (cc is)
  none_claimed false b k is = refl

  pub no_claim : sight.may_claim ≡ false → found_there (first_ranked (rank_bare sight) 2 pool) ≡ None
  no_claim none = ap found_there (first_found-nothing (λ k. if_rank 2 (slot_at k) (rank_bare sight (slot_at k))) (last_slot_of pool.cidr pool.size + 1) 0 (λ j up below. none_claimed sight.may_claim (bare_at j) j none))

  not_bare : (k : ℕ) → bare_at k ≡ false → if_rank 2 (slot_at k) (rank_bare sight (slot_at k)) ≡ None
  not_bare k none = by sight.may_claim
    where
      by : (may : Bool) → if_bare 2 (slot_at k) (may && bare_at k) ≡ None
      by true = ap (λ b. if_bare 2 (slot_at k) b) none
      by false = refl

  pub none_is_bare : ((k : ℕ) → k ≤ last_slot_of pool.cidr pool.size → bare_at k ≡ false) → found_there (first_ranked (rank_bare sight) 2 pool) ≡ None
  none_is_bare none = ap found_there (first_found-nothing (λ k. if_rank 2 (slot_at k) (rank_bare sight (slot_at k))) (last_slot_of pool.cidr pool.size + 1) 0 (λ j up below. not_bare j (none j (omega arith))))

  pub bare_is_first : (k : ℕ) → sight.may_claim ≡ true → IsFirstBare sight.reserved sight.blocks pool k → found_there (first_ranked (rank_bare sight) 2 pool) ≡ Some (record { slot = slot_at k; rank = UnclaimedRank None })
  bare_is_first k may first =
      ap found_there (first_found-is (λ k. if_rank 2 (slot_at k) (rank_bare sight (slot_at k))) (last_slot_of pool.cidr pool.size + 1) 0 k (record { slot = slot_at k; rank = UnclaimedRank None }) (omega arith) (omega (arith, first.within))
      (ap₂ (λ a b. if_bare 2 (slot_at k) (a && b)) may first.bare)
      (λ j up less. not_bare j (first.least j less)))

-- ---- all slots
module _ (sight : Sight) (number : ℕ) (slot : CidrValue) where
  abbrev bare_rank : Bool → Option Rank
  bare_rank b = cond b (Some (UnclaimedRank None)) None

  or-none : {A : Type 0} (o : Option A) → option_or o None ≡ o
  or-none None = refl
  or-none (Some a) = refl

  parted : (o : Option (ℕ × block.BlockValue)) (may free : Bool) → if_rank number slot (option_or (rank_of_found sight o) (bare_rank (may && (is_none o && free)))) ≡ option_or (if_rank number slot (rank_of_found sight o)) (if_rank number slot (bare_rank (may && (is_none o && free))))
  parted None may free = refl
  parted (Some found) true free = ap (if_rank number slot) (or-none (rank_of_found sight (Some found))) ∙ sym (or-none (if_rank number slot (rank_of_found sight (Some found))))
  parted (Some found) false free = ap (if_rank number slot) (or-none (rank_of_found sight (Some found))) ∙ sym (or-none (if_rank number slot (rank_of_found sight (Some found))))

  pub slot_parted : if_rank number slot (rank_in_sight sight slot) ≡ option_or (if_rank number slot (rank_listed sight slot)) (if_rank number slot (rank_bare sight slot))
  slot_parted = parted (block_under sight.blocks slot) sight.may_claim (has_free sight.reserved slot)

first_parted : (sight : Sight) (number : ℕ) (pool : Pool) → first_ranked (rank_in_sight sight) number pool ≡ earlier (first_ranked (rank_listed sight) number pool) (first_ranked (rank_bare sight) number pool)
first_parted sight number pool =
    first_found-either
    (λ k. if_rank number (slot_of pool.cidr pool.size k) (rank_in_sight sight (slot_of pool.cidr pool.size k)))
    (λ k. if_rank number (slot_of pool.cidr pool.size k) (rank_listed sight (slot_of pool.cidr pool.size k)))
    (λ k. if_rank number (slot_of pool.cidr pool.size k) (rank_bare sight (slot_of pool.cidr pool.size k)))
    (λ k. slot_parted sight number (slot_of pool.cidr pool.size k)) (last_slot_of pool.cidr pool.size + 1) 0

-- only one level is that of a slot without a block
bare_other : (level : Level) (slot : CidrValue) (b : Bool) → (level ≡ Unclaimed → ⊥) → if_rank (level_number level) slot (cond b (Some (UnclaimedRank None)) None) ≡ None
bare_other Own slot true other = refl
bare_other Unconfirmed slot true other = refl
bare_other Unclaimed slot true other = absurd (other refl)
bare_other Foreign slot true other = refl
bare_other level slot false other = refl

pub first_in_other : (sight : Sight) (level : Level) (pool : Pool) → (level ≡ Unclaimed → ⊥) → found_there (first_ranked (rank_listed sight) (level_number level) pool) ≡ first_in sight (level_number level) pool
first_in_other sight level pool other =
    let none = first_found-nothing (λ k. if_rank (level_number level) (slot_of pool.cidr pool.size k) (rank_bare sight (slot_of pool.cidr pool.size k))) (last_slot_of pool.cidr pool.size + 1) 0 (λ j up below. bare_other level (slot_of pool.cidr pool.size j) _ other) in
    sym (ap found_there (first_parted sight (level_number level) pool ∙ (ap (earlier (first_ranked (rank_listed sight) (level_number level) pool)) none ∙ earlier-none (first_ranked (rank_listed sight) (level_number level) pool))))

-- of two slots, that with the lower number has the lower base
bases_compared : (pool : CidrValue) (size j k : ℕ) → nat_le j k ≡ nat_le (slot_of pool size j).base (slot_of pool size k).base
bases_compared pool size j k = elim (cases_lt k j) [
  | inl less ↦
      let below = slot_bases pool size k j less in
      let left : nat_le j k ≡ false = grind arith in
      let right : nat_le (slot_of pool size j).base (slot_of pool size k).base ≡ false = grind arith in
      left ∙ sym right
  | inr reached ↦ by (cases_lt j k) reached
]
  where
    by : (j < k) ⊎ (k ≤ j) → j ≤ k → nat_le j k ≡ nat_le (slot_of pool size j).base (slot_of pool size k).base
    by (inl less) reached =
        let below = slot_bases pool size j k less in
        let left : nat_le j k ≡ true = grind arith in
        let right : nat_le (slot_of pool size j).base (slot_of pool size k).base ≡ true = grind arith in
        left ∙ sym right
    by (inr more) reached =
        let same : j ≡ k = omega arith in
        let left : nat_le j k ≡ true = grind arith in
        let bases : (slot_of pool size j).base ≡ (slot_of pool size k).base = ap (λ (n : ℕ). (slot_of pool size n).base) same in
        let right : nat_le (slot_of pool size j).base (slot_of pool size k).base ≡ true = grind arith in
        left ∙ sym right

-- what is found stands at the slot of its number
abbrev StandsAt : Pool → Option (ℕ × Ranked) → Type 0
StandsAt pool o = (found : ℕ × Ranked) → o ≡ Some found → found.1.slot ≡ slot_of pool.cidr pool.size found.0

stands : (rank : CidrValue → Option Rank) (number : ℕ) (pool : Pool) → StandsAt pool (first_ranked rank number pool)
stands rank number pool found is =
    if_rank-slot number (slot_of pool.cidr pool.size found.0) _ found.1
    (first_found-some (λ k. if_rank number (slot_of pool.cidr pool.size k) (rank (slot_of pool.cidr pool.size k))) (last_slot_of pool.cidr pool.size + 1) 0 found is).there

there-cond : (b : Bool) (x y : ℕ × Ranked) → found_there (cond b (Some x) (Some y)) ≡ cond b (Some x.1) (Some y.1)
there-cond true x y = refl
there-cond false x y = refl

earlier-lower : (pool : Pool) (o p : Option (ℕ × Ranked)) → StandsAt pool o → StandsAt pool p → found_there (earlier o p) ≡ lower (found_there o) (found_there p)
earlier-lower pool None p at_o at_p = refl
earlier-lower pool (Some x) None at_o at_p = refl
earlier-lower pool (Some x) (Some y) at_o at_p =
    let slots : nat_le (slot_of pool.cidr pool.size x.0).base (slot_of pool.cidr pool.size y.0).base ≡ nat_le x.1.slot.base y.1.slot.base = λ i. nat_le (sym (at_o x refl) i).base (sym (at_p y refl) i).base in
    there-cond (nat_le x.0 y.0) x y
    ∙ ap (λ b. cond b (Some x.1) (Some y.1)) (bases_compared pool.cidr pool.size x.0 y.0 ∙ slots)

pub first_in_lower : (sight : Sight) (pool : Pool) → first_in sight 2 pool ≡ lower (found_there (first_ranked (rank_listed sight) 2 pool)) (found_there (first_ranked (rank_bare sight) 2 pool))
first_in_lower sight pool =
    ap found_there (first_parted sight 2 pool)
    ∙ earlier-lower pool (first_ranked (rank_listed sight) 2 pool) (first_ranked (rank_bare sight) 2 pool) (stands (rank_listed sight) 2 pool) (stands (rank_bare sight) 2 pool)

-- what is picked of the two
pub lower_first : (o p : Option Ranked) → is_lower o p ≡ true → o ≡ lower o p
lower_first o p is = sym (ap (λ b. cond b o p) is)

pub lower_other : (o p : Option Ranked) → is_lower o p ≡ false → p ≡ lower o p
lower_other o p is = sym (ap (λ b. cond b o p) is)

-- the slot without a block that is first, or the one with a block, is the first of all
pub unclaimed_first : (sight : Sight) (level : Level) (pool : Pool) (o p : Option Ranked) → level ≡ Unclaimed → o ≡ found_there (first_ranked (rank_listed sight) (level_number level) pool) → p ≡ found_there (first_ranked (rank_bare sight) 2 pool) → lower o p ≡ first_in sight (level_number level) pool
unclaimed_first sight level pool o p is listed bare =
    let number : level_number level ≡ 2 = ap level_number is in
    ap₂ lower (listed ∙ ap (λ n. found_there (first_ranked (rank_listed sight) n pool)) number) bare
    ∙ (sym (first_in_lower sight pool) ∙ ap (λ n. first_in sight n pool) (sym number))

-- the slot of a candidate that was found
pub sound_in : (o : Option Candidate) → IfSome o (λ candidate. IsCidr candidate.slot) → (x : Ranked) → ranked_in o ≡ Some x → IsCidr x.slot
sound_in None sound x e = absurd (cc e)
sound_in (Some candidate) sound x e = let same : ranked_as candidate ≡ x = cc e in subst (λ (r : Ranked). IsCidr r.slot) same sound
