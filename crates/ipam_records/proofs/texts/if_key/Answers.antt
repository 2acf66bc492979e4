use Rattle.std.proofs.Common.{◌∙◌, sym}
use Rattle.ipam_records.specs.KeyRef.{owned_key}
use Rattle.ipam_records.proofs.RecordTexts.{kept_by_key, refused_by_key}
use Rattle.ipam_records.proofs.texts.if_key.Goals as goal

pub returns-then-is_same : goal.returns-then-is_same
returns-then-is_same c =
    sym (kept_by_key (owned_key c.args.named.now) c.args.found (c.is_same.ensures.0 c.if-is_same.true ∙ c.of_record.ensures))

pub returns-else-is_same : goal.returns-else-is_same
returns-else-is_same c =
    sym (refused_by_key (owned_key c.args.named.now) c.args.found c.requires.named c.requires.sound
    (λ same. let test = c.is_same.ensures.1 (same ∙ sym c.of_record.ensures) in let other = c.if-is_same.false in absurd cc))
