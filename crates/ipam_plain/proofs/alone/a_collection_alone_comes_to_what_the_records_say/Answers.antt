use Rattle.ipam_plain.proofs.Whole.{collect_alone}
use Rattle.ipam_plain.proofs.alone.a_collection_alone_comes_to_what_the_records_say.Goals as goal

pub returns : goal.returns
returns c = collect_alone
