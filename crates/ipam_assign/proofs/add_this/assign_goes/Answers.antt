use Rattle.std.proofs.Common.{◌≡◌, ◌∙◌, sym, ap, subst}
use Rattle.ipam_records.specs.Word.{answer_in}
use Rattle.ipam_model.specs.declared.outcome.AddThisAnswer.{AddThisAnswer}
use Rattle.ipam_model.specs.Step.{Part}
use Rattle.ipam_assign.specs.declared.add_this.Stage.{Stage}
use Rattle.ipam_assign.specs.AddThis.{this_at, this_assigns_part, assigns_leaves}
use Rattle.ipam_assign.proofs.AddThisLemmas.{assign_on, other_stage, stage_goes_on}
use Rattle.ipam_assign.proofs.add_this.assign_goes.Goals as goal

pub returns-in-None-clause-on : goal.returns-in-None-clause-on
returns-in-None-clause-on c = λ g left.
    subst (λ (stage : Stage). this_assigns_part g c.in-Assigns.looked c.go.new.self ≡ assigns_leaves g left stage c.args.turned)
    (sym c.in-Assigns.is)
    (assign_on g left c.in-Assigns.looked c.in-Assigns.assigning c.go.new.self c.args.turned c.in-None.ensures.on)

pub returns-in_default : goal.returns-in_default
returns-in_default c = record {
  ended = tt;
  on = λ g left. sym (other_stage g left c.args.stage.now c.args.turned c.in_default.not-Assigns);
  asks = λ g left.
      stage_goes_on g left c.args.stage.now
      ∙ ap (λ (p : Part AddThisAnswer). answer_in (this_at p)) (sym (other_stage g left c.args.stage.now c.args.turned c.in_default.not-Assigns));
}
