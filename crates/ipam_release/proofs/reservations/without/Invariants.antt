use Rattle.std.proofs.Common.{◌≡◌, take}
use Rattle.std.specs.Prelude.{filter, not}
use Rattle.ipam_model.specs.Admin.{is_named}
use Rattle.ipam_release.proofs.reservations.without.Given as goal

abbrev pub invariant-loop-other : goal.invariant-loop-other
invariant-loop-other l = l.changed ≡ filter (λ r. not (is_named l.name r)) (take l.other-index l.list)
