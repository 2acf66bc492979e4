-- Each connection that was accepted so far was handed over, or served here, and each that was left and taken is kept. No
-- look found the alarm raised.
use Rattle.std.proofs.Common.{◌≡◌}
use Rattle.ipam_daemon.specs.Handing.{IsEachKept, IsHandedOver}
use Rattle.ipam_daemon.proofs.handing.hand_over_all.Given as goal

abbrev pub invariant-loop : goal.invariant-loop
invariant-loop g l =
    IsHandedOver (g.L.Listens.accepted l.initial.listener) (g.L.Listens.accepted l.listener) (g.H.Hands.handed l.initial.to) (g.H.Hands.handed l.to)
    (g.W.Attends.attended l.initial.own) (g.W.Attends.attended l.own)
    × IsEachKept (g.B.TakesNow.taken l.initial.left) (g.B.TakesNow.taken l.left) (g.L.Listens.kept l.initial.listener) (g.L.Listens.kept l.listener)
    × (g.L.Listens.faults l.listener ≡ g.L.Listens.faults l.initial.listener)
    × (g.A.Watches.found l.watch ≡ g.A.Watches.found l.initial.watch)
