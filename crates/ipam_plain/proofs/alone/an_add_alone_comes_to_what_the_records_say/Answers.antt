use Rattle.ipam_plain.proofs.Whole.{add_alone}
use Rattle.ipam_plain.proofs.alone.an_add_alone_comes_to_what_the_records_say.Goals as goal

pub returns : goal.returns
returns c = add_alone
