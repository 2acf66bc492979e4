use Rattle.std.proofs.Common.{◌≡◌, ℕ, List, take}
use Rattle.ipam_model.specs.Remove.{is_live}
use Rattle.ipam_collect.specs.Live.{has_id}
use Rattle.ipam_collect.proofs.live.Live.of.Given as goal

abbrev pub invariant-loop-id : goal.invariant-loop-id
invariant-loop-id l = (id : List ℕ) → has_id l.ids id ≡ is_live (take l.id-index l.list) id
