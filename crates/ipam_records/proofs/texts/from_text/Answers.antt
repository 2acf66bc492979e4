use Rattle.std.proofs.lemmas.Result.{IfOk-weaker}
use Rattle.ipam_records.proofs.RecordTexts.{record_read, record-ok, record-err}
use Rattle.ipam_records.proofs.texts.from_text.Goals as goal

pub returns-clause-sound : goal.returns-clause-sound
returns-clause-sound c =
    IfOk-weaker c.read_record.result _ _ (λ r read. (record_read c.args.key.now c.args.body.now r read).sound) (record-ok _ c.read_record.result c.read_record.ensures)

pub returns-clause-texts : goal.returns-clause-texts
returns-clause-texts c =
    IfOk-weaker c.read_record.result _ _ (λ r read. let is = record_read c.args.key.now c.args.body.now r read in (is.own, is.said)) (record-ok _ c.read_record.result c.read_record.ensures)

pub returns-clause-read : goal.returns-clause-read
returns-clause-read c = record-ok _ c.read_record.result c.read_record.ensures

pub returns-clause-refused : goal.returns-clause-refused
returns-clause-refused c = record-err _ c.read_record.result c.read_record.ensures
