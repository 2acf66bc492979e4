use Rattle.ipam_command.proofs.Records.{by_records}
use Rattle.ipam_command.proofs.cni_laws.a_call_is_told_what_the_records_say.Goals as goal

pub returns : goal.returns
returns c = by_records
