-- The pass is the same, and nothing runs in its slot.
use Rattle.std.proofs.Common.{◌≡◌, None}
use Rattle.ipam_shared.specs.Passes.{IsSamePass, runs_in}
use Rattle.ipam_daemon_tests.proofs.sessions.serve_each.Given as goal

abbrev pub invariant-loop-part : goal.invariant-loop-part
invariant-loop-part g l =
    (goal.iterator-loop-part g).can_next l.part-iterator
    × (goal.iterator-loop-part g).is_finite l.part-iterator
    × IsSamePass l.initial.pass l.pass
    × (runs_in l.pass ≡ None)
