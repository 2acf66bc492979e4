-- What is picked does not depend on revisions.
use Rattle.std.proofs.Common.{◌≡◌, ℕ, zero, suc, ◌+◌, Bool, true, false, cond, List, [], ◌∷◌, Option, Some, None, refl, sym, ap, ◌∙◌, subst}
use Rattle.std.specs.Prelude.{◌&&◌, ◌||◌, ◌==◌, IsTrue, nat_lt, is_some, not}
use Rattle.std.specs.List.{count_by, list_any}
use Rattle.ipam_addr.specs.Shape.{CidrValue}
use Rattle.ipam_addr.specs.Slots.{last_slot_of, slot_of}
use Rattle.ipam_addr.specs.Width.{cidr_size}
use Rattle.ipam_block.specs.Operations.{ordinal_address, room}
use Rattle.ipam_block.specs.Shape.{BlockValue}
use Rattle.ipam_pool.specs.declared.pools.Pool.{Pool}
use Rattle.ipam_record_text.specs.declared.config.Config.{Config}
use Rattle.ipam_pool.specs.Shape.{ReservationValue}
use Rattle.ipam_pool.specs.Union.{is_in_union}
use Rattle.ipam_records.specs.declared.key.Key.TheVariants as key
use Rattle.ipam_model.specs.Choice.{Foreign, Lacks, Own, Pick, Picks, Rank, Ranked, Seen, Unclaimed, Unconfirmed, Unknown, best_of_ranks, block_at, first_found, first_slot, first_slot_in, has_free_address, if_rank, is_block_of, is_confirmed_for, is_unowned_and_empty, may_claim, pick_of, pick_unless, rank_at, rank_number, rank_of, rank_of_block, ranked_at, room_of}
use Rattle.ipam_model.specs.Plain.{Rows, seen_in}
use Rattle.ipam_model.specs.Usable.{Asked, is_usable, unknown_name}
use Rattle.ipam_plain.proofs.Alike.{Alike, IsSorted, alike-records, same-pools, value_in}
use Rattle.ipam_plain.proofs.Seeing.{block-named, same-block, same-config, same-confirmed, same-count, same-reservations}
use Rattle.ipam_laws.proofs.AddRounds.{usable-family}
use Rattle.ipam_records.specs.BlockLists.{is_node}

-- ---- the same but for revisions

abbrev pub SameRank : Rank → Rank → Type 0
SameRank (Own found ordinal) (Own there place) = (found.1 ≡ there.1) × (ordinal ≡ place)
SameRank (Unconfirmed found) (Unconfirmed there) = found.1 ≡ there.1
SameRank (Unclaimed read) (Unclaimed seen) = value_in read ≡ value_in seen
SameRank (Foreign found ordinal) (Foreign there place) = (found.1 ≡ there.1) × (ordinal ≡ place)
SameRank _ _ = ⊥

abbrev pub SameRanked : Ranked → Ranked → Type 0
SameRanked one other = (one.slot ≡ other.slot) × SameRank one.rank other.rank

abbrev pub SamePick : Pick → Pick → Type 0
SamePick (Picks one) (Picks other) = SameRanked one other
SamePick Lacks Lacks = Unit {0}
SamePick (Unknown place) (Unknown other) = place ≡ other
SamePick _ _ = ⊥

-- both are there and so related, or neither is
abbrev Both : {A : Type 0} → (A → A → Type 0) → Option A → Option A → Type 0
Both R (Some one) (Some other) = R one other
Both R None None = Unit {0}
Both R _ _ = ⊥

rank-number : (one other : Rank) → SameRank one other → rank_number one ≡ rank_number other
rank-number (Own found ordinal) (Own there place) s = refl
rank-number (Own found ordinal) (Unconfirmed there) s = absurd s
rank-number (Own found ordinal) (Unclaimed read) s = absurd s
rank-number (Own found ordinal) (Foreign there place) s = absurd s
rank-number (Unconfirmed found) (Own there place) s = absurd s
rank-number (Unconfirmed found) (Unconfirmed there) s = refl
rank-number (Unconfirmed found) (Unclaimed read) s = absurd s
rank-number (Unconfirmed found) (Foreign there place) s = absurd s
rank-number (Unclaimed read) (Own there place) s = absurd s
rank-number (Unclaimed read) (Unconfirmed there) s = absurd s
rank-number (Unclaimed read) (Unclaimed seen) s = refl
rank-number (Unclaimed read) (Foreign there place) s = absurd s
rank-number (Foreign found ordinal) (Own there place) s = absurd s
rank-number (Foreign found ordinal) (Unconfirmed there) s = absurd s
rank-number (Foreign found ordinal) (Unclaimed read) s = absurd s
rank-number (Foreign found ordinal) (Foreign there place) s = refl

-- ---- of what is seen alike

-- what two choices see is the same but for revisions, as far as the family goes
pub record SeesSame (asked : Asked) (one other : Seen) : Type 0 where
  pub config : one.config ≡ other.config
  pub pools : one.pools ≡ other.pools
  pub reservations : one.reservations ≡ other.reservations
  pub blocks : (cidr : CidrValue) → cidr.family ≡ asked.family → value_in (block_at one cidr) ≡ value_in (block_at other cidr)
  pub named : (cidr : CidrValue) (found : ℕ × BlockValue) → block_at one cidr ≡ Some found → found.1.cidr ≡ cidr
  pub confirmed : (cidr : CidrValue) → cidr.family ≡ asked.family → list_any (is_confirmed_for asked.node cidr) one.affinities ≡ list_any (is_confirmed_for asked.node cidr) other.affinities
  pub count : count_by (is_block_of asked) one.blocks ≡ count_by (is_block_of asked) other.blocks

pub alike-sees : (asked : Asked) (one other : Rows) → IsSorted one → IsSorted other → Alike one other → SeesSame asked (seen_in one) (seen_in other)
alike-sees asked one other s t h = record {
  config = same-config one other (h key.Config);
  pools = same-pools one other (h key.Pools);
  reservations = same-reservations one other (h key.Reservations);
  blocks = λ cidr own. same-block one other cidr (h (key.Block cidr));
  named = block-named one;
  confirmed = λ cidr own. same-confirmed asked.node cidr one other s t (h (key.Affinity asked.node cidr));
  count = same-count asked one other (alike-records one other s t h);
}

-- the room of a block is said by the reservations
pub same-room : (one other : Seen) (b : BlockValue) → one.reservations ≡ other.reservations → room_of one b ≡ room_of other b
same-room one other b e = ap (λ (r : List ReservationValue). room (is_in_union r) b) e

module _ (asked : Asked) (one other : Seen) (same : SeesSame asked one other) where
  same-may : may_claim asked one ≡ may_claim asked other
  same-may =
      let configs = same.config in
      let counts = same.count in
      λ i. (configs i).auto && (((configs i).max_blocks == 0) || nat_lt (counts i) (configs i).max_blocks)

  same-free : (slot : CidrValue) → has_free_address one slot ≡ has_free_address other slot
  same-free slot = ap (λ (r : List ReservationValue). is_some (first_found (λ o. cond (is_in_union r (ordinal_address slot o)) None (Some (ordinal_address slot o))) (cidr_size slot) 0)) same.reservations

  same-of_block : (found there : ℕ × BlockValue) → found.1 ≡ there.1 → found.1.cidr.family ≡ asked.family → (o : Option ℕ) → Both SameRank (rank_of_block asked one found o) (rank_of_block asked other there o)
  same-of_block found there is own None = tt
  same-of_block found there is own (Some ordinal) =
      let b = found.1 in
      let P : BlockValue → Type 0 = λ c. Both SameRank (rank_of_block asked one found (Some ordinal))
      (cond (is_node asked.node c.node) (cond (list_any (is_confirmed_for asked.node c.cidr) other.affinities) (Some (Own there ordinal)) (Some (Unconfirmed there)))
      (cond (is_unowned_and_empty c && may_claim asked other) (Some (Unclaimed (Some there))) (cond other.config.strict None (Some (Foreign there ordinal))))) in
      subst P is
      (rw (sym (same.confirmed b.cidr own), sym same-may, ap (λ (c : Config). c.strict) (sym same.config))
      (by (is_node asked.node b.node) (list_any (is_confirmed_for asked.node b.cidr) one.affinities) (is_unowned_and_empty b && may_claim asked one) one.config.strict))
    where
      by : (own confirmed free strict : Bool) → Both SameRank
          (cond own (cond confirmed (Some (Own found ordinal)) (Some (Unconfirmed found))) (cond free (Some (Unclaimed (Some found))) (cond strict None (Some (Foreign found ordinal)))))
          (cond own (cond confirmed (Some (Own there ordinal)) (Some (Unconfirmed there))) (cond free (Some (Unclaimed (Some there))) (cond strict None (Some (Foreign there ordinal)))))
      by true true free strict = (is, refl)
      by true false free strict = is
      by false confirmed true strict = ap (λ (b : BlockValue). Some b) is
      by false confirmed false true = tt
      by false confirmed false false = (is, refl)

  same-at : (slot : CidrValue) (read seen : Option (ℕ × BlockValue)) → ((found : ℕ × BlockValue) → read ≡ Some found → found.1.cidr.family ≡ asked.family) → value_in read ≡ value_in seen → Both SameRank (rank_at asked one slot read) (rank_at asked other slot seen)
  same-at slot None (Some there) of e = absurd (cc e)
  same-at slot (Some found) None of e = absurd (cc e)
  same-at slot None None of e =
      subst (λ (b : Bool). Both SameRank (rank_at asked one slot None) (cond b (Some (Unclaimed None)) None)) (λ i. same-may i && same-free slot i) (by (may_claim asked one && has_free_address one slot))
    where
      by : (b : Bool) → Both SameRank (cond b (Some (Unclaimed None)) None) (cond b (Some (Unclaimed None)) None)
      by true = refl
      by false = tt
  same-at slot (Some found) (Some there) of e =
      let is : found.1 ≡ there.1 = cc e in
      let rooms : room_of one found.1 ≡ room_of other there.1 = same-room one other found.1 same.reservations ∙ ap (room_of other) is in
      subst (λ (o : Option ℕ). Both SameRank (rank_of_block asked one found (room_of one found.1)) (rank_of_block asked other there o)) rooms (same-of_block found there is (of found refl) (room_of one found.1))

  same-rank : (slot : CidrValue) → slot.family ≡ asked.family → Both SameRank (rank_of asked one slot) (rank_of asked other slot)
  same-rank slot own =
      same-at slot (block_at one slot) (block_at other slot) (λ found at. ap (λ (c : CidrValue). c.family) (same.named slot found at) ∙ own) (same.blocks slot own)

  same-if : (number : ℕ) (slot : CidrValue) (o p : Option Rank) → Both SameRank o p → Both SameRanked (if_rank number slot o) (if_rank number slot p)
  same-if number slot None None h = tt
  same-if number slot None (Some r) h = absurd h
  same-if number slot (Some r) None h = absurd h
  same-if number slot (Some r) (Some s) h =
      subst (λ (n : ℕ). Both SameRanked (if_rank number slot (Some r)) (cond (n == number) (Some (record { slot = slot; rank = s })) None)) (rank-number r s h) (by (rank_number r == number))
    where
      by : (b : Bool) → Both SameRanked (cond b (Some (record { slot = slot; rank = r })) None) (cond b (Some (record { slot = slot; rank = s })) None)
      by true = (refl, h)
      by false = tt

  same-found : (R : Ranked → Ranked → Type 0) (finds gets : ℕ → Option Ranked) → ((k : ℕ) → Both R (finds k) (gets k)) → (many from : ℕ) → Both (λ (x y : ℕ × Ranked). R x.1 y.1) (first_found finds many from) (first_found gets many from)
  unfolding first_found
  same-found R finds gets h zero from = tt
  same-found R finds gets h (suc many) from = by (finds from) (gets from) (h from) (same-found R finds gets h many (from + 1))
    where
      by : (o p : Option Ranked) → Both R o p → Both (λ (x y : ℕ × Ranked). R x.1 y.1) (first_found finds many (from + 1)) (first_found gets many (from + 1))
          → Both (λ (x y : ℕ × Ranked). R x.1 y.1) (elim o as (λ o. Option (ℕ × Ranked)) [ Some found ↦ Some (from, found) | None ↦ first_found finds many (from + 1) ]) (elim p as (λ o. Option (ℕ × Ranked)) [ Some found ↦ Some (from, found) | None ↦ first_found gets many (from + 1) ])
      by None None k rest = rest
      by None (Some y) k rest = absurd k
      by (Some x) None k rest = absurd k
      by (Some x) (Some y) k rest = k

  same-slot : (number : ℕ) (pools : List Pool) → Both SameRanked (first_slot asked one number pools) (first_slot asked other number pools)
  unfolding first_slot
  same-slot number [] = tt
  same-slot number (pool ∷ pools) =
      by (is_usable asked pool) (first_slot_in asked one number pool) (first_slot_in asked other number pool)
      (λ usable. same-found SameRanked (λ k. ranked_at asked one number (slot_of pool.cidr pool.size k)) (λ k. ranked_at asked other number (slot_of pool.cidr pool.size k))
      (λ k. same-if number (slot_of pool.cidr pool.size k) (rank_of asked one (slot_of pool.cidr pool.size k)) (rank_of asked other (slot_of pool.cidr pool.size k)) (same-rank (slot_of pool.cidr pool.size k) (sym (usable-family asked pool usable))))
      (last_slot_of pool.cidr pool.size + 1) 0)
      refl (same-slot number pools)
    where
      by : (b : Bool) (o p : Option (ℕ × Ranked)) → (IsTrue (is_usable asked pool) → Both (λ (x y : ℕ × Ranked). SameRanked x.1 y.1) o p) → is_usable asked pool ≡ b → Both SameRanked (first_slot asked one number pools) (first_slot asked other number pools)
          → Both SameRanked
          (elim b as (λ b. Option Ranked) [ true ↦ elim o as (λ o. Option Ranked) [ Some found ↦ Some found.1 | None ↦ first_slot asked one number pools ] | false ↦ first_slot asked one number pools ])
          (elim b as (λ b. Option Ranked) [ true ↦ elim p as (λ o. Option Ranked) [ Some found ↦ Some found.1 | None ↦ first_slot asked other number pools ] | false ↦ first_slot asked other number pools ])
      by false o p k e rest = rest
      by true None None k e rest = rest
      by true None (Some y) k e rest = absurd (k e)
      by true (Some x) None k e rest = absurd (k e)
      by true (Some x) (Some y) k e rest = k e

  same-best : (numbers : List ℕ) → SamePick (best_of_ranks asked one numbers) (best_of_ranks asked other numbers)
  unfolding best_of_ranks
  same-best [] = tt
  same-best (number ∷ numbers) =
      by (first_slot asked one number one.pools) (first_slot asked other number other.pools)
      (subst (λ (l : List Pool). Both SameRanked (first_slot asked one number one.pools) (first_slot asked other number l)) same.pools (same-slot number one.pools))
      (same-best numbers)
    where
      by : (o p : Option Ranked) → Both SameRanked o p → SamePick (best_of_ranks asked one numbers) (best_of_ranks asked other numbers)
          → SamePick (elim o as (λ o. Pick) [ Some ranked ↦ Picks ranked | None ↦ best_of_ranks asked one numbers ]) (elim p as (λ o. Pick) [ Some ranked ↦ Picks ranked | None ↦ best_of_ranks asked other numbers ])
      by None None k rest = rest
      by None (Some y) k rest = absurd k
      by (Some x) None k rest = absurd k
      by (Some x) (Some y) k rest = k

  pub same-pick : SamePick (pick_of asked one) (pick_of asked other)
  unfolding pick_of
  same-pick = subst (λ (l : List Pool). SamePick (pick_unless asked one (unknown_name asked one.pools)) (pick_unless asked other (unknown_name asked l))) same.pools (by (unknown_name asked one.pools))
    where
      by : (o : Option ℕ) → SamePick (pick_unless asked one o) (pick_unless asked other o)
      by (Some place) = refl
      by None = same-best (0 ∷ 1 ∷ 2 ∷ 3 ∷ [])

pub pick-itself : (p : Pick) → SamePick p p
pick-itself (Unknown place) = refl
pick-itself Lacks = tt
pick-itself (Picks ranked) = (refl, by ranked.rank)
  where
    by : (r : Rank) → SameRank r r
    by (Own found ordinal) = (refl, refl)
    by (Unconfirmed found) = refl
    by (Unclaimed read) = refl
    by (Foreign found ordinal) = (refl, refl)
