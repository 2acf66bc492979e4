use Rattle.std.proofs.Common.{sym}
use Rattle.ipam_records.specs.KeyRef.{owned_key}
use Rattle.ipam_records.proofs.RecordTexts.{unsound_by_key, another_by_key}
use Rattle.ipam_records.proofs.texts.unsound_fault.Goals as goal

pub returns-then-is_same : goal.returns-then-is_same
returns-then-is_same c =
    sym (unsound_by_key (owned_key c.args.named.now) c.args.cidr (c.is_same.ensures.0 c.if-is_same.true))

pub returns-else-is_same : goal.returns-else-is_same
returns-else-is_same c =
    sym (another_by_key (owned_key c.args.named.now) c.args.cidr c.requires.named c.requires.cidr
    (λ same. let test = c.is_same.ensures.1 same in let other = c.if-is_same.false in absurd cc))
