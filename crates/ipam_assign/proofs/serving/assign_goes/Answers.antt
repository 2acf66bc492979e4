use Rattle.std.proofs.Common.{◌≡◌, ◌∙◌, sym, ap, subst}
use Rattle.ipam_records.specs.Word.{answer_in}
use Rattle.ipam_model.specs.declared.outcome.Served.{Served}
use Rattle.ipam_model.specs.Step.{Part}
use Rattle.ipam_assign.specs.declared.serving.Step.{Step}
use Rattle.ipam_assign.specs.Serving.{assigns_leaves, assigns_part}
use Rattle.ipam_assign.proofs.ServingLemmas.{assign_on, other_assign, step_goes_on}
use Rattle.ipam_assign.proofs.serving.assign_goes.Goals as goal

pub returns-in-None-clause-on : goal.returns-in-None-clause-on
returns-in-None-clause-on c = λ g left.
    subst (λ (step : Step). assigns_part g c.in-Assigns.spot c.go.new.self ≡ assigns_leaves g left step c.args.turned)
    (sym c.in-Assigns.is)
    (assign_on g left c.in-Assigns.spot c.in-Assigns.assigning c.go.new.self c.args.turned c.in-None.ensures.on)

pub returns-in_default : goal.returns-in_default
returns-in_default c = record {
  ended = tt;
  on = λ g left. sym (other_assign g left c.args.step.now c.args.turned c.in_default.not-Assigns);
  asks = λ g left.
      step_goes_on g left c.args.step.now
      ∙ ap (λ (p : Part Served). answer_in p) (sym (other_assign g left c.args.step.now c.args.turned c.in_default.not-Assigns));
}
