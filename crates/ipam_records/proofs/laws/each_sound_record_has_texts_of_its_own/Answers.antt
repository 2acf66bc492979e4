use Rattle.ipam_records.proofs.RecordTexts.{one_record}
use Rattle.ipam_records.proofs.laws.each_sound_record_has_texts_of_its_own.Goals as goal

pub returns : goal.returns
returns c = one_record
