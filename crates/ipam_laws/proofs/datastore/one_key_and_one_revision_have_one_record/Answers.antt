use Rattle.ipam_laws.proofs.OneRecord.{one_record}
use Rattle.ipam_laws.proofs.datastore.one_key_and_one_revision_have_one_record.Goals as goal

pub returns : goal.returns
returns c = one_record
