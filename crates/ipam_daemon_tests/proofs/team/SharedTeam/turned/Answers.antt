use Rattle.std.proofs.Common.{ap}
use Rattle.ipam_shared.specs.PassValue.{PassValue}
use Rattle.ipam_daemon_tests.proofs.team.SharedTeam.turned.Goals as goal

pub returns-in-Ok : goal.returns-in-Ok
returns-in-Ok g c = ap (λ (p : PassValue). p.lock) c.turn.ensures.same

pub returns-in-Err : goal.returns-in-Err
returns-in-Err g c = ap (λ (p : PassValue). p.lock) c.turn.ensures.same
