use Rattle.std.proofs.Common.{sym, subst, ◌∙◌}
use Rattle.ipam_cluster.specs.Cluster.{slot_of_cluster}
use Rattle.ipam_model.specs.Course.{Begin}
use Rattle.ipam_model.specs.declared.request.Request.{Request}
use Rattle.ipam_command.specs.Counted.{Happens}
use Rattle.ipam_command.proofs.DrawLemmas.{drawing-never-waits, drawn-request, drawn-turn, idle-state}
use Rattle.ipam_command.proofs.gen_drawing.draw_once.Goals as goal

pub unreachable-requires : goal.unreachable-requires
unreachable-requires c =
    drawing-never-waits c.args.counted.now c.args.draws.now.x c.args.begun c.draw-drawn.result c.requires.drawing (sym c.state.ensures ∙ c.in-Waiting.is)

pub returns-in_ok-begins-in-Idle-clause-drawing : goal.returns-in_ok-begins-in-Idle-clause-drawing
returns-in_ok-begins-in-Idle-clause-drawing c =
    λ count less d. drawn-request c.args.counted.now c.begin-begins.new.self count c.args.draws.now.x c.draw-drawn.new.self.x c.request_of.new.draws.x
    c.args.begun c.draw-drawn.result c.draw-drawn.ensures.value c.draw-drawn.ensures.state c.in_ok-request-in-Idle.ensures.state less d
    (idle-state (slot_of_cluster c.args.counted.now.cluster c.draw-drawn.result) (sym c.state.ensures ∙ c.in-Idle.is))
    (subst (λ (request : Request). Happens c.args.counted.now c.begin-begins.new.self (Begin c.draw-drawn.result request)) c.in_ok-request-in-Idle.ensures.made c.in_ok-begins-in-Idle.ensures.happens)

pub returns-in_ok-turn-in-Running-clause-drawing : goal.returns-in_ok-turn-in-Running-clause-drawing
returns-in_ok-turn-in-Running-clause-drawing c =
    λ count less d. drawn-turn c.args.counted.now c.turn.new.self count c.args.draws.now.x c.draw-drawn.new.self.x
    c.args.begun c.draw-drawn.result c.in_ok-turn-in-Running.field-0 c.draw-drawn.ensures.value c.draw-drawn.ensures.state less d
    (sym c.state.ensures ∙ c.in-Running.is) c.in_ok-turn-in-Running.ensures.happens
