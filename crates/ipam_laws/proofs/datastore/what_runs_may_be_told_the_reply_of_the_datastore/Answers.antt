use Rattle.ipam_laws.proofs.MayHear.{may_hear}
use Rattle.ipam_laws.proofs.datastore.what_runs_may_be_told_the_reply_of_the_datastore.Goals as goal

pub returns : goal.returns
returns c = may_hear
