use Rattle.std.proofs.Common.{None, Some, ◌∙◌}
use Rattle.std.proofs.lemmas.List.{set-set}
use Rattle.ipam_cluster.proofs.slots.go.Goals as goal

pub returns-then-is_some-clause-gone : goal.returns-then-is_some-clause-gone
returns-then-is_some-clause-gone c = λ some. c.put.ensures ∙ set-set c.args.slots.now.items c.args.slot (Some c.go-answer.new.self) None
