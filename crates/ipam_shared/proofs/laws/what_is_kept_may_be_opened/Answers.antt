use Rattle.ipam_shared.proofs.Doubts.{kept_opens}
use Rattle.ipam_shared.proofs.laws.what_is_kept_may_be_opened.Goals as goal

pub returns : goal.returns
returns c = kept_opens
