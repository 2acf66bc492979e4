use Rattle.std.proofs.Common.{◌∙◌, sym, ap, ℕ}
use Rattle.ipam_records.specs.Word.{answer_in}
use Rattle.ipam_model.specs.declared.outcome.AddAnswer.{AddAnswer}
use Rattle.ipam_model.specs.Step.{Part, part_then}
use Rattle.ipam_assign.specs.declared.add.Stage.{Stage}
use Rattle.ipam_assign.specs.Adding.{add_at, refuses_leaves, then_answer}
use Rattle.ipam_assign.proofs.AddLemmas.{freeing_ended, other_freeing, stage_goes_on}
use Rattle.ipam_assign.proofs.add.free_goes.Goals as goal

pub returns-in-None-clause-on : goal.returns-in-None-clause-on
returns-in-None-clause-on c = λ asking turn.
    ap (λ (w : Part ℕ). part_then w (then_answer c.in-Refuses.answer)) (c.in-None.ensures.on asking.attributes.handle)
    ∙ ap (λ (stage : Stage). refuses_leaves asking turn stage c.args.turned) (sym c.in-Refuses.is)

pub returns-in-Some-clause-ended : goal.returns-in-Some-clause-ended
returns-in-Some-clause-ended c = λ asking turn.
    c.freed.ensures
    ∙ ap answer_in
    (freeing_ended asking turn c.in-Refuses.freeing c.in-Refuses.answer c.args.turned c.in-Some.outcome (c.in-Some.ensures.answer asking.attributes.handle)
    ∙ ap (λ (stage : Stage). add_at (refuses_leaves asking turn stage c.args.turned)) (sym c.in-Refuses.is))

pub returns-in_default-clause-ended : goal.returns-in_default-clause-ended
returns-in_default-clause-ended c = λ asking turn.
    stage_goes_on asking turn c.args.stage.now
    ∙ ap (λ (p : Part AddAnswer). answer_in (add_at p)) (sym (other_freeing asking turn c.args.stage.now c.args.turned c.in_default.not-Refuses))
