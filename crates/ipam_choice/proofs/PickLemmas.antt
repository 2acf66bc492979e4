-- What is picked is what the specification picks.
use Rattle.std.proofs.Common.{◌≡◌, ℕ, ◌&&◌, Bool, true, false, cond, List, [], ◌∷◌, Option, Some, None, is_none, refl, sym, ap, ◌∙◌}
use Rattle.std.specs.Option.{option_or}
use Rattle.ipam_addr.specs.Shape.{CidrValue}
use Rattle.ipam_block.specs.Shape as block
use Rattle.ipam_pool.specs.declared.pools.Pool.{Pool}
use Rattle.ipam_model.specs.Usable.{Asked, is_usable, unknown_name}
use Rattle.ipam_model.specs.Choice.{Seen, Rank, Unclaimed, Ranked, rank_of, rank_at, block_at, has_free_address, may_claim, first_slot_in, first_slot, Pick, Unknown, Picks, best_of_ranks, pick_unless, pick_of}
use Rattle.ipam_choice.specs.First.{first_of, found_there}
use Rattle.ipam_choice.specs.Sight.{Sight, sight_in, rank_of_found, rank_in_sight, first_ranked, first_in}
use Rattle.ipam_addr.specs.Shape.{AddrValue}
use Rattle.std.specs.List.{list_any}
use Rattle.ipam_model.specs.Choice.{is_confirmed_for, is_reserved}
use Rattle.ipam_choice.specs.Known.{unless_unknown, pick_in, sight_known}
use Rattle.ipam_choice.specs.Scanned.{if_usable, first_usable, pick_from}

pub unknown_pick : (asked : Asked) (seen : Seen) (place : ℕ) → unknown_name asked seen.pools ≡ Some place → Unknown place ≡ pick_of asked seen
unfolding pick_of
unknown_pick asked seen place e = sym (ap (pick_unless asked seen) e)

or-none : {A : Type 0} (o : Option A) → option_or o None ≡ o
or-none None = refl
or-none (Some a) = refl

-- ---- the rank of a slot
module _ (asked : Asked) (seen : Seen) where
  same_rank : (cidr : CidrValue) → rank_in_sight (sight_in asked seen) cidr ≡ rank_of asked seen cidr
  same_rank cidr = by (block_at seen cidr) (may_claim asked seen)
    where
      by : (o : Option (ℕ × block.BlockValue)) (may : Bool)
          → option_or (rank_of_found (sight_in asked seen) o) (cond (may && (is_none o && has_free_address seen cidr)) (Some (Unclaimed None)) None)
          ≡ elim o as (λ o. Option Rank) [ Some found ↦ rank_at asked seen cidr (Some found) | None ↦ cond (may && has_free_address seen cidr) (Some (Unclaimed None)) None ]
      by None may = refl
      by (Some found) true = or-none (rank_of_found (sight_in asked seen) (Some found))
      by (Some found) false = or-none (rank_of_found (sight_in asked seen) (Some found))

  same_first : (number : ℕ) (pool : Pool) → first_in (sight_in asked seen) number pool ≡ found_there (first_slot_in asked seen number pool)
  same_first number pool = λ i. found_there (first_ranked (λ cidr. same_rank cidr i) number pool)

  -- ---- the first slot of the pools
  first_slot_is : (number : ℕ) (pools : List Pool) → first_of (if_usable asked (sight_in asked seen) number) pools ≡ first_slot asked seen number pools
  unfolding first_slot
  first_slot_is number [] = refl
  first_slot_is number (pool ∷ pools) =
      ap (λ (o : Option Ranked). option_or (cond (is_usable asked pool) o None) (first_of (if_usable asked (sight_in asked seen) number) pools)) (same_first number pool)
      ∙ by (first_slot_is number pools) (is_usable asked pool) (first_slot_in asked seen number pool)
    where
      by : first_of (if_usable asked (sight_in asked seen) number) pools ≡ first_slot asked seen number pools → (b : Bool) (o : Option (ℕ × Ranked))
          → option_or (cond b (found_there o) None) (first_of (if_usable asked (sight_in asked seen) number) pools)
          ≡ elim b as (λ b. Option Ranked) [ true ↦ elim o as (λ o. Option Ranked) [ Some found ↦ Some found.1 | None ↦ first_slot asked seen number pools ] | false ↦ first_slot asked seen number pools ]
      by rest true (Some found) = refl
      by rest true None = rest
      by rest false o = rest

  -- ---- the first of the ranks
  best_is : (numbers : List ℕ) → pick_from (first_of (first_usable asked (sight_in asked seen) seen.pools) numbers) ≡ best_of_ranks asked seen numbers
  unfolding best_of_ranks
  best_is [] = refl
  best_is (number ∷ numbers) =
      ap (λ (o : Option Ranked). pick_from (option_or o (first_of (first_usable asked (sight_in asked seen) seen.pools) numbers))) (first_slot_is number seen.pools)
      ∙ by (best_is numbers) (first_slot asked seen number seen.pools)
    where
      by : pick_from (first_of (first_usable asked (sight_in asked seen) seen.pools) numbers) ≡ best_of_ranks asked seen numbers → (o : Option Ranked)
          → pick_from (option_or o (first_of (first_usable asked (sight_in asked seen) seen.pools) numbers))
          ≡ elim o as (λ o. Pick) [ Some ranked ↦ Picks ranked | None ↦ best_of_ranks asked seen numbers ]
      by rest (Some ranked) = refl
      by rest None = rest

  pub best_pick : (sight : Sight) → sight ≡ sight_in asked seen → unknown_name asked seen.pools ≡ None → pick_from (first_of (first_usable asked sight seen.pools) (0 ∷ 1 ∷ 2 ∷ 3 ∷ [])) ≡ pick_of asked seen
  unfolding pick_of
  best_pick sight same known =
      ap (λ (s : Sight). pick_from (first_of (first_usable asked s seen.pools) (0 ∷ 1 ∷ 2 ∷ 3 ∷ []))) same
      ∙ (best_is (0 ∷ 1 ∷ 2 ∷ 3 ∷ []) ∙ sym (ap (pick_unless asked seen) known))

-- ---- by what is known

known_pick_at : (asked : Asked) (seen : Seen) (sight : Sight) (unknown : Option ℕ) → unknown_name asked seen.pools ≡ unknown
    → sight ≡ sight_in asked seen
    → unless_unknown unknown (pick_from (first_of (first_usable asked sight seen.pools) (0 ∷ 1 ∷ 2 ∷ 3 ∷ []))) ≡ pick_of asked seen
known_pick_at asked seen sight (Some place) is same = unknown_pick asked seen place is
known_pick_at asked seen sight None is same = best_pick asked seen sight same is

-- what is picked by what is known is what the specification picks, where the node's confirmed
-- affinities and what is reserved are known as they are
pub known_pick : (asked : Asked) (seen : Seen) (confirmed : CidrValue → Bool) (reserved : AddrValue → Bool)
    → ((cidr : CidrValue) → confirmed cidr ≡ list_any (is_confirmed_for asked.node cidr) seen.affinities)
    → ((a : AddrValue) → reserved a ≡ is_reserved seen a)
    → pick_in asked seen.pools (sight_known asked seen.config confirmed reserved seen.blocks) ≡ pick_of asked seen
known_pick asked seen confirmed reserved same_confirmed same_reserved =
    known_pick_at asked seen (sight_known asked seen.config confirmed reserved seen.blocks) (unknown_name asked seen.pools) refl
    (λ i. record {
      node = asked.node;
      strict = seen.config.strict;
      may_claim = may_claim asked seen;
      confirmed = λ cidr. same_confirmed cidr i;
      reserved = λ a. same_reserved a i;
      blocks = seen.blocks;
    })
