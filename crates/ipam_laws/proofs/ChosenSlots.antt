-- The slot of a choice, and the candidate that a choice is.
use Rattle.std.proofs.Common.{◌≡◌, ℕ, Option, Some, None, refl, ◌∙◌, subst, arith}
use Rattle.std.specs.Prelude.{MatchOption}
use Rattle.ipam_addr.specs.Shape.{CidrValue}
use Rattle.ipam_model.specs.declared.choice.Choice.{Choice}
use Rattle.ipam_model.specs.declared.choice.Choice.TheVariants.{Use, Claim, Borrow, Nothing, NoPool}
use Rattle.ipam_model.specs.Choice.{Candidate, Foreign, IsBest, IsNotBehind, Own, Picks, Rank, Ranked, Seen, Unclaimed, Unconfirmed, by_number, by_place, by_rank, choice_of, chosen, pick_of, pick_unless, rank_in}
use Rattle.ipam_model.specs.Usable.{Asked, unknown_name}
use Rattle.ipam_model.proofs.ChoiceLemmas.{choice_is}

-- the slot of a choice
abbrev pub slot_in : Choice → Option CidrValue
slot_in (Use slot ordinal) = Some slot
slot_in (Claim slot) = Some slot
slot_in (Borrow slot ordinal) = Some slot
slot_in Nothing = None
slot_in (NoPool place) = None

pub chosen-slot : (slot : CidrValue) (rank : Rank) → slot_in (chosen (record { slot = slot; rank = rank })) ≡ Some slot
chosen-slot slot (Own found ordinal) = refl
chosen-slot slot (Unconfirmed found) = refl
chosen-slot slot (Unclaimed read) = refl
chosen-slot slot (Foreign found ordinal) = refl

-- where a slot is picked, no name is unknown
pub none-unknown : (asked : Asked) (seen : Seen) (ranked : Ranked) → pick_of asked seen ≡ Picks ranked → unknown_name asked seen.pools ≡ None
unfolding pick_of
none-unknown asked seen ranked e = by (unknown_name asked seen.pools) refl e
  where
    by : (o : Option ℕ) → unknown_name asked seen.pools ≡ o → pick_unless asked seen o ≡ Picks ranked → unknown_name asked seen.pools ≡ None
    by None is f = is
    by (Some place) is f = absurd (cc f)

pub best-choice : (asked : Asked) (seen : Seen) → unknown_name asked seen.pools ≡ None → IsBest asked seen (choice_of asked seen)
best-choice asked seen none = subst (λ (o : Option ℕ). MatchOption o (IsBest asked seen (choice_of asked seen)) (λ place. choice_of asked seen ≡ NoPool place)) none (choice_is asked seen)

-- a candidate that is not after one of the first rank is of the first rank
pub least-rank : (c other : Candidate) → IsNotBehind c other → rank_in other ≡ 0 → rank_in c ≡ 0
least-rank c other (by_rank less) zero_is = absurd (omega arith)
least-rank c other (by_place same less) zero_is = same ∙ zero_is
least-rank c other (by_number same place least) zero_is = same ∙ zero_is
