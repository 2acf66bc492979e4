use Rattle.std.proofs.Common.{◌≡◌, take}
use Rattle.ipam_release.proofs.reservations.copied.Given as goal

abbrev pub invariant-loop-reservation : goal.invariant-loop-reservation
invariant-loop-reservation l = l.copy ≡ take l.reservation-index l.list
