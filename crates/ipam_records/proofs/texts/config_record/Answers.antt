use Rattle.ipam_record_text.specs.Config.{config_reading}
use Rattle.ipam_record_text.proofs.Configs.{config_reading-told}
use Rattle.ipam_records.specs.declared.record.Record.TheVariants.{Config}
use Rattle.ipam_records.specs.KeyRef.{key_ref_bytes}
use Rattle.ipam_records.proofs.RecordTexts.{keyed-kept, keyed-fault}
use Rattle.ipam_records.proofs.texts.config_record.Goals as goal

pub returns-in-Ok : goal.returns-in-Ok
returns-in-Ok c =
    keyed-kept Config (key_ref_bytes c.args.named.now) (config_reading c.args.body.now) c.config_of.result
    (config_reading-told c.args.body.now c.config_of.result c.config_of.ensures.read c.config_of.ensures.form c.config_of.ensures.no_table)
    c.in-Ok.config c.if_key.result c.in-Ok.is c.if_key.ensures

pub returns-in-Err : goal.returns-in-Err
returns-in-Err c =
    keyed-fault Config (key_ref_bytes c.args.named.now) (config_reading c.args.body.now) c.config_of.result
    (config_reading-told c.args.body.now c.config_of.result c.config_of.ensures.read c.config_of.ensures.form c.config_of.ensures.no_table)
    c.in-Err.fault c.fault_of_body.result c.in-Err.is c.fault_of_body.ensures
