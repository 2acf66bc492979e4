use Rattle.ipam_laws.proofs.AloneLooks.{check_alone}
use Rattle.ipam_laws.proofs.alone.a_check_alone_says_what_the_records_say.Goals as goal

pub returns : goal.returns
returns c = check_alone
