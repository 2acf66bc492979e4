use Rattle.std.proofs.Common.{ap}
use Rattle.ipam_shared.specs.PassValue.{PassValue}
use Rattle.ipam_daemon_tests.proofs.team.SharedTeam.settles.Goals as goal

pub returns : goal.returns
returns g c = ap (λ (p : PassValue). p.lock) c.settle.ensures.same
