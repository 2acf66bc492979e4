use Rattle.ipam_record_text.specs.Reservations.{reservations_reading}
use Rattle.ipam_record_text.proofs.ReservationLists.{reservations_reading-told}
use Rattle.ipam_records.specs.declared.record.Record.TheVariants.{Reservations}
use Rattle.ipam_records.specs.KeyRef.{key_ref_bytes}
use Rattle.ipam_records.proofs.RecordTexts.{keyed-kept, keyed-fault}
use Rattle.ipam_records.proofs.texts.reservations_record.Goals as goal

pub returns-in-Ok : goal.returns-in-Ok
returns-in-Ok c =
    keyed-kept Reservations (key_ref_bytes c.args.named.now) (reservations_reading c.args.body.now) c.reservations_of.result
    (reservations_reading-told c.args.body.now c.reservations_of.result c.reservations_of.ensures.read c.reservations_of.ensures.form c.reservations_of.ensures.no_table)
    c.in-Ok.reservations c.if_key.result c.in-Ok.is c.if_key.ensures

pub returns-in-Err : goal.returns-in-Err
returns-in-Err c =
    keyed-fault Reservations (key_ref_bytes c.args.named.now) (reservations_reading c.args.body.now) c.reservations_of.result
    (reservations_reading-told c.args.body.now c.reservations_of.result c.reservations_of.ensures.read c.reservations_of.ensures.form c.reservations_of.ensures.no_table)
    c.in-Err.fault c.fault_of_body.result c.in-Err.is c.fault_of_body.ensures
