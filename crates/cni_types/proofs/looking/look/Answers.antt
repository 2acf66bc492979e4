use Rattle.std.proofs.Common.{sym}
use Rattle.cni_types.proofs.Soundness.{look_reading-sound}
use Rattle.cni_types.proofs.looking.look.Goals as goal

pub returns-in-Ok-Ok-clause-sound : goal.returns-in-Ok-Ok-clause-sound
returns-in-Ok-Ok-clause-sound c =
    look_reading-sound c.args.env.now c.args.stdin.now c.in-Ok-Ok.look (sym (rw c.in-Ok-Ok.field-0-is at c.in-Ok-Ok.ensures))
