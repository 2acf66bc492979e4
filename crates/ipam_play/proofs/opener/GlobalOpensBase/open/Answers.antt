use Rattle.ipam_play.proofs.Timings.{never_timed}
use Rattle.ipam_play.proofs.opener.GlobalOpensBase.open.Goals as goal

pub returns-clause-timed : goal.returns-clause-timed
returns-clause-timed c = λ slot grace e. absurd (never_timed c.in_ok-cluster.cluster c.in_ok-cluster.ensures.idle slot grace e)
