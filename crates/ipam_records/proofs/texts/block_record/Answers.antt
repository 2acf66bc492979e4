use Rattle.std.proofs.Common.{◌∙◌, ap, Err}
use Rattle.ipam_block_text.specs.Reading.{block_reading}
use Rattle.ipam_block_text.proofs.Exact.{block_reading-told}
use Rattle.ipam_block_text.proofs.Sound.{cidr_said-sound}
use Rattle.ipam_records.specs.KeyRef.{key_ref_bytes}
use Rattle.ipam_records.proofs.RecordTexts.{block-kept, block-fault}
use Rattle.ipam_records.proofs.texts.block_record.Goals as goal

pub fault_of_block-requires-clause-cidr : goal.fault_of_block-requires-clause-cidr
fault_of_block-requires-clause-cidr c =
    λ cidr is. cidr_said-sound c.args.body.now cidr (c.block_of.ensures.unsound cidr (c.in-Err.is ∙ ap Err is)).0

pub returns-in-Ok : goal.returns-in-Ok
returns-in-Ok c =
    block-kept (key_ref_bytes c.args.named.now) (block_reading c.args.body.now) c.block_of.result
    (block_reading-told c.args.body.now c.block_of.result c.block_of.ensures.read c.block_of.ensures.form c.block_of.ensures.unsound)
    c.in-Ok.block c.if_key.result c.in-Ok.is c.if_key.ensures

pub returns-in-Err : goal.returns-in-Err
returns-in-Err c =
    block-fault (key_ref_bytes c.args.named.now) (block_reading c.args.body.now) c.block_of.result
    (block_reading-told c.args.body.now c.block_of.result c.block_of.ensures.read c.block_of.ensures.form c.block_of.ensures.unsound)
    c.in-Err.fault c.fault_of_block.result c.in-Err.is c.fault_of_block.ensures
