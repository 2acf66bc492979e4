use Rattle.std.proofs.Common.{◌≡◌, sym, subst, IfOk}
use Rattle.ipam_choice.specs.Picked.{rank_as}
use Rattle.ipam_choice.specs.declared.picked.Rank.{Rank}
use Rattle.ipam_model.specs.Add.{follow_rank}
use Rattle.ipam_assign.specs.Serving.{going, round_at, serving_goes}
use Rattle.ipam_assign.proofs.serving.Serving.at_slot.Goals as goal

pub returns-in-Own : goal.returns-in-Own
returns-in-Own c =
    subst (λ (rank : Rank). IfOk c.takes.result (λ goes. serving_goes c.args.request.now c.args.self.now goes
    ≡ follow_rank (round_at (going c.args.request.now c.args.self.now) c.args.scan) c.args.self.now.left c.args.candidate.now.slot (rank_as rank)))
    (sym c.in-Own.is) c.takes.ensures

pub returns-in-Foreign : goal.returns-in-Foreign
returns-in-Foreign c =
    subst (λ (rank : Rank). IfOk c.takes-in-Foreign.result (λ goes. serving_goes c.args.request.now c.args.self.now goes
    ≡ follow_rank (round_at (going c.args.request.now c.args.self.now) c.args.scan) c.args.self.now.left c.args.candidate.now.slot (rank_as rank)))
    (sym c.in-Foreign.is) c.takes-in-Foreign.ensures
