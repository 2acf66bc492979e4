use Rattle.ipam_record_text.specs.Pools.{pools_reading}
use Rattle.ipam_record_text.proofs.PoolTables.{pools_reading-told}
use Rattle.ipam_records.specs.declared.record.Record.TheVariants.{Pools}
use Rattle.ipam_records.specs.KeyRef.{key_ref_bytes}
use Rattle.ipam_records.proofs.RecordTexts.{keyed-kept, keyed-fault}
use Rattle.ipam_records.proofs.texts.pools_record.Goals as goal

pub returns-in-Ok : goal.returns-in-Ok
returns-in-Ok c =
    keyed-kept Pools (key_ref_bytes c.args.named.now) (pools_reading c.args.body.now) c.pools_of.result
    (pools_reading-told c.args.body.now c.pools_of.result c.pools_of.ensures.read c.pools_of.ensures.form c.pools_of.ensures.table)
    c.in-Ok.pools c.if_key.result c.in-Ok.is c.if_key.ensures

pub returns-in-Err : goal.returns-in-Err
returns-in-Err c =
    keyed-fault Pools (key_ref_bytes c.args.named.now) (pools_reading c.args.body.now) c.pools_of.result
    (pools_reading-told c.args.body.now c.pools_of.result c.pools_of.ensures.read c.pools_of.ensures.form c.pools_of.ensures.table)
    c.in-Err.fault c.fault_of_body.result c.in-Err.is c.fault_of_body.ensures
