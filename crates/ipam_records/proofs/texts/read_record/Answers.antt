use Rattle.std.proofs.Common.{◌∙◌, Ok, ap}
use Rattle.ipam_records.specs.KeyRef.{owned_key}
use Rattle.ipam_records.proofs.KeyTextLemmas.{IsTextOf-key_read}
use Rattle.ipam_records.proofs.RecordTexts.{reading_named, named_read}
use Rattle.ipam_records.proofs.texts.read_record.Goals as goal

pub record_of_kind-requires : goal.record_of_kind-requires
record_of_kind-requires c =
    (IsTextOf-key_read c.args.key.now (owned_key c.in-Ok-Some.named)
    (named_read c.read_key.result c.in-Ok-Some.named _ c.args.key.now (c.in-Ok-Some.is ∙ ap Ok c.in-Ok-Some.field-0-is) c.read_key.ensures c.as_bytes.ensures.value)).sound

pub returns-in-Ok-Some : goal.returns-in-Ok-Some
returns-in-Ok-Some c =
    λ other.
    reading_named c.args.key.now c.args.body.now (owned_key c.in-Ok-Some.named)
    (named_read c.read_key.result c.in-Ok-Some.named _ c.args.key.now (c.in-Ok-Some.is ∙ ap Ok c.in-Ok-Some.field-0-is) c.read_key.ensures c.as_bytes.ensures.value)
    ∙ c.record_of_kind.ensures other
