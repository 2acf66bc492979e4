use Rattle.std.proofs.Common.{◌∙◌, sym, ap}
use Rattle.ipam_records.specs.Word.{answer_in}
use Rattle.ipam_model.specs.declared.outcome.Served.{Served}
use Rattle.ipam_model.specs.Step.{Part}
use Rattle.ipam_assign.specs.declared.scanning.Learned.{Learned}
use Rattle.ipam_assign.specs.declared.serving.Goes.{Goes}
use Rattle.ipam_assign.specs.Serving.{going, scans_leaves, serving_goes}
use Rattle.ipam_assign.proofs.ServingLemmas.{step_goes_on}
use Rattle.ipam_assign.proofs.serving.Serving.go.Goals as goal

pub returns-in-To-clause-answer : goal.returns-in-To-clause-answer
returns-in-To-clause-answer c = λ request.
    step_goes_on (going request c.args.self.now) c.args.self.now.left c.in-To.step
    ∙ ap (λ (goes : Goes). answer_in (serving_goes request c.args.self.now goes)) (sym c.in-To.is)

pub returns-in-Learned-clause-answer : goal.returns-in-Learned-clause-answer
returns-in-Learned-clause-answer c = λ request.
    step_goes_on (going request c.args.self.now) c.args.self.now.left c.scan_goes.new.step
    ∙ ap (λ (p : Part Served). answer_in p) (c.scan_goes.ensures (going request c.args.self.now) c.args.self.now.left)
    ∙ ap (λ (learned : Learned). answer_in (scans_leaves (going request c.args.self.now) c.args.self.now.left c.args.self.now.step learned)) c.in-Learned.learned-is
    ∙ ap (λ (goes : Goes). answer_in (serving_goes request c.args.self.now goes)) (sym c.in-Learned.is)

pub returns-in-Some-clause-answer : goal.returns-in-Some-clause-answer
returns-in-Some-clause-answer c = λ request.
    c.after_claim.ensures.answer request
    ∙ ap (λ (p : Part Served). answer_in p) (sym (c.in-Some.ensures.ended (going request c.args.self.now) c.args.self.now.left))
    ∙ ap (λ (goes : Goes). answer_in (serving_goes request c.args.self.now goes)) (sym c.in-Claim.is)
