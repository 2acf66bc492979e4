use Rattle.ipam_call.proofs.Refused.{no_text_refused}
use Rattle.ipam_call.proofs.laws.what_is_no_text_is_refused.Goals as goal

pub returns : goal.returns
returns c = no_text_refused
