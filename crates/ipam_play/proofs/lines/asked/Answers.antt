use Rattle.std.proofs.Common.{rules}
use Rattle.ipam_play.proofs.ReadingLemmas.{nothing_asked}
use Rattle.ipam_play.proofs.lines.asked.Goals as goal

pub returns-then-is_empty-clause-reading : goal.returns-then-is_empty-clause-reading
returns-then-is_empty-clause-reading c = nothing_asked c.args.before.bytes c.args.bytes.now (search rules)
