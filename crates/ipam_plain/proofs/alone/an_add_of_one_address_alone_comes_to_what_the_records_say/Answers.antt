use Rattle.ipam_plain.proofs.Whole.{add_this_alone}
use Rattle.ipam_plain.proofs.alone.an_add_of_one_address_alone_comes_to_what_the_records_say.Goals as goal

pub returns : goal.returns
returns c = add_this_alone
