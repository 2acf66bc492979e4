use Rattle.ipam_record_text.specs.Affinity.{affinity_reading}
use Rattle.ipam_record_text.proofs.Affinities.{affinity_reading-told}
use Rattle.ipam_records.specs.declared.record.Record.TheVariants.{Affinity}
use Rattle.ipam_records.specs.KeyRef.{key_ref_bytes}
use Rattle.ipam_records.proofs.RecordTexts.{keyed-kept, keyed-fault}
use Rattle.ipam_records.proofs.texts.affinity_record.Goals as goal

pub returns-in-Ok : goal.returns-in-Ok
returns-in-Ok c =
    keyed-kept Affinity (key_ref_bytes c.args.named.now) (affinity_reading c.args.body.now) c.affinity_of.result
    (affinity_reading-told c.args.body.now c.affinity_of.result c.affinity_of.ensures.read c.affinity_of.ensures.form c.affinity_of.ensures.no_table)
    c.in-Ok.affinity c.if_key.result c.in-Ok.is c.if_key.ensures

pub returns-in-Err : goal.returns-in-Err
returns-in-Err c =
    keyed-fault Affinity (key_ref_bytes c.args.named.now) (affinity_reading c.args.body.now) c.affinity_of.result
    (affinity_reading-told c.args.body.now c.affinity_of.result c.affinity_of.ensures.read c.affinity_of.ensures.form c.affinity_of.ensures.no_table)
    c.in-Err.fault c.fault_of_body.result c.in-Err.is c.fault_of_body.ensures
