use Rattle.std.proofs.Common.{◌∙◌, ap, ◌∷◌, []}
use Rattle.ipam_model.specs.declared.answer.Given.{Given}
use Rattle.ipam_assign.specs.declared.add.Turn.TheVariants.{Second}
use Rattle.ipam_assign.specs.Grant.{gift_in}
use Rattle.ipam_assign.proofs.AddLemmas.{first_asks, first_on, only_given, second_given}
use Rattle.ipam_assign.proofs.add.AddProc.gave.Goals as goal

pub returns-in-Only-clause-answer : goal.returns-in-Only-clause-answer
returns-in-Only-clause-answer c =
    only_given c.args.self.now.request c.args.self.now.turn c.in-Only.field-0 (gift_in c.args.grant) c.one.result c.args.left c.in-Only.is
    (c.one.ensures ∙ ap (λ (g : Given). g ∷ []) c.given.ensures)

pub returns-in-First-clause-answer : goal.returns-in-First-clause-answer
returns-in-First-clause-answer c =
    first_asks c.args.self.now.request c.args.self.now.turn c.args.grant c.args.left c.serve_next.new.stage c.in-First.is
    (c.serve_next.ensures c.args.self.now.request (Second c.args.grant))

pub returns-in-First-clause-on : goal.returns-in-First-clause-on
returns-in-First-clause-on c =
    first_on c.args.self.now.request c.args.self.now.turn c.args.grant c.args.left c.serve_next.new.stage c.in-First.is
    (c.serve_next.ensures c.args.self.now.request (Second c.args.grant))

pub returns-in-Second-clause-answer : goal.returns-in-Second-clause-answer
returns-in-Second-clause-answer c =
    second_given c.args.self.now.request c.args.self.now.turn c.in-Second.first (gift_in c.args.grant) c.two.result c.args.left c.in-Second.is
    (c.two.ensures
    ∙ ap (λ (g : Given). g ∷ c.given-in-Second-2.result ∷ []) c.given-in-Second.ensures
    ∙ ap (λ (g : Given). (gift_in c.in-Second.first).given ∷ g ∷ []) c.given-in-Second-2.ensures)
