use Rattle.ipam_plain.proofs.Whole.{del_alone}
use Rattle.ipam_plain.proofs.alone.a_del_alone_comes_to_what_the_records_say.Goals as goal

pub returns : goal.returns
returns c = del_alone
