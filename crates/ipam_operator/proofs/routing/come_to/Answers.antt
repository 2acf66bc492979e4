use Rattle.std.proofs.Common.{rules}
use Rattle.ipam_operator.specs.Asking.{Other}
use Rattle.ipam_operator.proofs.Wires.{comes-anew}
use Rattle.ipam_operator.proofs.routing.come_to.Goals as goal

pub returns-in-Ok-None : goal.returns-in-Ok-None
returns-in-Ok-None g c =
    record { asked = (c.ask.new.lines, Other c.in-Ok.line.items (search rules) (comes-anew _ _ _ _ (search rules) c.in-Ok.ensures.came) (search rules)) }
