-- Each connection that was taken so far was kept.
use Rattle.std.proofs.Common.{◌≡◌}
use Rattle.ipam_daemon.specs.Handing.{IsEachKept}
use Rattle.ipam_daemon.proofs.handing.keep_left.Given as goal

abbrev pub invariant-loop : goal.invariant-loop
invariant-loop g l =
    IsEachKept (g.B.TakesNow.taken l.initial.left) (g.B.TakesNow.taken l.left) (g.L.Listens.kept l.initial.listener) (g.L.Listens.kept l.listener)
    × (g.L.Listens.accepted l.listener ≡ g.L.Listens.accepted l.initial.listener)
    × (g.L.Listens.faults l.listener ≡ g.L.Listens.faults l.initial.listener)
