use Rattle.ipam_assign.proofs.ProbeLemmas.{next_turn}
use Rattle.ipam_assign.proofs.probe.ProbeProc.has_one.Goals as goal

pub returns-in-First : goal.returns-in-First
returns-in-First c = next_turn c.args.self.now.request c.args.self.now.turn c.args.scan c.in-First.is
