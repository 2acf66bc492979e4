use Rattle.std.proofs.Common.{◌≡◌, take}
use Rattle.ipam_model.specs.Admin.{with_reservation}
use Rattle.ipam_release.proofs.reservations.replaced.Given as goal

abbrev pub invariant-loop-other : goal.invariant-loop-other
invariant-loop-other l = l.changed ≡ with_reservation l.new (take l.other-index l.list)
