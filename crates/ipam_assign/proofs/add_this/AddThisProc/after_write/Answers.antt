use Rattle.std.proofs.Common.{◌∙◌, sym, ap, Option, Some}
use Rattle.ipam_records.specs.Word.{answer_in}
use Rattle.ipam_model.specs.declared.answer.GivenThis.{GivenThis}
use Rattle.ipam_model.specs.declared.outcome.AddThisAnswer.TheVariants.{AddedThis}
use Rattle.ipam_model.specs.declared.part.Assigned.{Assigned}
use Rattle.ipam_model.specs.AddThis.{this_assigned}
use Rattle.ipam_assign.specs.AddThis.{this_going, this_next, looked_of, this_at, wanted_at}
use Rattle.ipam_assign.proofs.add_this.AddThisProc.after_write.Goals as goal

pub returns-in-Some-clause-answer : goal.returns-in-Some-clause-answer
returns-in-Some-clause-answer c =
    ap (λ (g : GivenThis). Some (AddedThis g)) (c.given.ensures c.args.self.now.request)
    ∙ ap (λ (a : Option Assigned). answer_in (this_at (this_assigned (wanted_at c.args.self.now.request c.args.looked.address)
    (this_next (this_going c.args.self.now)) (looked_of c.args.looked) c.args.now a)))
    (sym c.in-Some.is)
