use Rattle.std.proofs.Common.{◌≡◌, map, take}
use Rattle.ipam_release.specs.Check.{visit_of}
use Rattle.ipam_release.proofs.check.visits_of.Given as goal

abbrev pub invariant-loop-address : goal.invariant-loop-address
invariant-loop-address l = l.visits ≡ map (visit_of l.pools) (take l.address-index l.addresses)
