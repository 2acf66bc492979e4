use Rattle.ipam_records.proofs.RecordTexts.{record_read}
use Rattle.ipam_records.proofs.laws.what_is_read_is_sound_and_has_these_texts.Goals as goal

pub returns : goal.returns
returns c = record {
  sound = λ key body r read. (record_read key body r read).sound;
  key = λ key body r read. (record_read key body r read).own;
  body = λ key body r read. (record_read key body r read).said;
}
