use Rattle.ipam_laws.proofs.StoreSteps.{replies}
use Rattle.ipam_laws.proofs.datastore.each_call_has_the_reply_of_the_datastore.Goals as goal

pub returns : goal.returns
returns c = replies
