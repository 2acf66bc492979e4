use Rattle.std.proofs.Common.{rules}
use Rattle.ipam_operator.proofs.Standings.{standing_is}
use Rattle.ipam_operator.proofs.standing.standing.Goals as goal

pub returns : goal.returns
returns c = standing_is c.args.first.now c.args.second _ (search rules) (search rules) (search rules) (search rules) (search rules) (search rules)
