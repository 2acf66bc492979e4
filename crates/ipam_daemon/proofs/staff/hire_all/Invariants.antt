-- A worker has a thread for each round so far.
use Rattle.std.proofs.Common.{◌≡◌, ◌≤◌, ◌+◌}
use Rattle.std.specs.Arc.{arc_value}
use Rattle.std.specs.Vec.{vec_len}
use Rattle.ipam_shared.specs.Passes.{runs_in}
use Rattle.ipam_daemon.proofs.staff.hire_all.Given as goal

abbrev pub invariant-loop : goal.invariant-loop
invariant-loop g l =
    (l.pass.lock ≡ g.S.Serves.id (arc_value l.common.shared))
    × (l.pass.lock ≡ l.initial.pass.lock)
    × (l.pass.slot ≡ l.initial.pass.slot)
    × (runs_in l.pass ≡ runs_in l.initial.pass)
    × (vec_len l.crew.threads ≡ vec_len l.initial.crew.threads + l.counter)
    × (l.crew.faults ≡ l.initial.crew.faults)
    × (l.counter ≤ l.workers)
