use Rattle.ipam_record_text.specs.Handle.{handle_reading}
use Rattle.ipam_record_text.proofs.Handles.{handle_reading-told}
use Rattle.ipam_records.specs.declared.record.Record.TheVariants.{Handle}
use Rattle.ipam_records.specs.KeyRef.{key_ref_bytes}
use Rattle.ipam_records.proofs.RecordTexts.{keyed-kept, keyed-fault}
use Rattle.ipam_records.proofs.texts.handle_record.Goals as goal

pub returns-in-Ok : goal.returns-in-Ok
returns-in-Ok c =
    keyed-kept Handle (key_ref_bytes c.args.named.now) (handle_reading c.args.body.now) c.handle_of.result
    (handle_reading-told c.args.body.now c.handle_of.result c.handle_of.ensures.read c.handle_of.ensures.form c.handle_of.ensures.no_table)
    c.in-Ok.handle c.if_key.result c.in-Ok.is c.if_key.ensures

pub returns-in-Err : goal.returns-in-Err
returns-in-Err c =
    keyed-fault Handle (key_ref_bytes c.args.named.now) (handle_reading c.args.body.now) c.handle_of.result
    (handle_reading-told c.args.body.now c.handle_of.result c.handle_of.ensures.read c.handle_of.ensures.form c.handle_of.ensures.no_table)
    c.in-Err.fault c.fault_of_body.result c.in-Err.is c.fault_of_body.ensures
