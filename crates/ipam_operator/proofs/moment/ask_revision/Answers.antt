use Rattle.std.proofs.Common.{rules}
use Rattle.ipam_operator.specs.Asking.{Other}
use Rattle.ipam_operator.proofs.moment.ask_revision.Goals as goal

pub returns-in-Ok-None : goal.returns-in-Ok-None
returns-in-Ok-None g c = record { asked = Other c.in-Ok.line.items c.in-Ok.ensures.sent c.in-Ok.ensures.came (search rules) }
