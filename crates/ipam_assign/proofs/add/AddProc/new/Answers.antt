use Rattle.std.proofs.Common.{◌∙◌, ap}
use Rattle.ipam_model.specs.declared.request.AddRequest.{AddRequest}
use Rattle.ipam_assign.specs.Adding.{first_turn}
use Rattle.ipam_assign.proofs.AddLemmas.{begins}
use Rattle.ipam_assign.proofs.add.AddProc.new.Goals as goal

pub returns : goal.returns
returns c =
    begins c.begun-begun.result c.args.add.now c.turn_for-turn.result c.requires
    (c.begun-begun.ensures.request ∙ c.in_ok-request.ensures.cases) c.begun-begun.ensures.turn
    (c.turn_for-turn.ensures ∙ ap (λ (r : AddRequest). first_turn r.ipv4 r.ipv6) c.in_ok-request.ensures.cases)
    c.begun-begun.ensures.stage
