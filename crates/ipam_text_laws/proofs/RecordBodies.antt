-- No two sound records of one key have one body.
use Rattle.std.proofs.Common.{◌≡◌, ap}
use Rattle.ipam_records.specs.declared.record.Record.{Record}
use Rattle.ipam_records.specs.Body.{body_of}
use Rattle.ipam_records.specs.Key.{key_of}
use Rattle.ipam_records.specs.KeyText.{key_bytes}
use Rattle.ipam_records.specs.Sound.{IsRecord}
use Rattle.ipam_records.proofs.RecordTexts.{one_record}

pub record_told : (r s : Record) → IsRecord r → IsRecord s → key_of r ≡ key_of s → body_of r ≡ body_of s → r ≡ s
record_told r s h k keys bodies = one_record r s h k (ap key_bytes keys) bodies
