use Rattle.ipam_records.proofs.RecordTexts.{record_reads_back}
use Rattle.ipam_records.proofs.laws.each_sound_record_is_read_from_its_texts.Goals as goal

pub returns : goal.returns
returns c = record_reads_back
