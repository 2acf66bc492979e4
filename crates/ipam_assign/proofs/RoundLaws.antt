-- Rounds, one by one.
use Rattle.std.proofs.Common.{◌≡◌, refl, ℕ, zero, suc}
use Rattle.ipam_model.specs.declared.part.Left.{Left}
use Rattle.ipam_model.specs.Step.{Part, rounds}
use Rattle.ipam_assign.specs.Rounds.{next_of}

pub rounds_once : {A : Type 0} (round : (Left → Part A) → Left → Part A) (more : ℕ) (left : Left)
    → rounds round more left ≡ round (next_of round more) left
unfolding rounds
rounds_once round zero left = refl
rounds_once round (suc more) left = refl
