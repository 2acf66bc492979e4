use Rattle.ipam_shared.proofs.SureStanding.{sure_opens}
use Rattle.ipam_shared.proofs.laws.what_is_sure_may_be_opened.Goals as goal

pub returns : goal.returns
returns c = sure_opens
