use Rattle.std.proofs.Common.{◌∙◌, ap, sym, Some}
use Rattle.std.specs.Option.{option_copied}
use Rattle.ipam_records.specs.Word.{answer_in}
use Rattle.ipam_model.specs.declared.outcome.CollectAnswer.TheVariants.{Collected}
use Rattle.ipam_collect.specs.declared.frees.Frees.{Frees}
use Rattle.ipam_collect.specs.Frees.{leaks_left}
use Rattle.ipam_collect.proofs.FreesLemmas.{asks_on, begins, none_left}
use Rattle.ipam_collect.proofs.frees.Frees.next.Goals as goal

pub returns-in-Some-clause-on : goal.returns-in-Some-clause-on
returns-in-Some-clause-on c =
    let f : Frees = record { b1 = c.args.self.now.b1; b2 = c.args.self.now.b2; tally = c.finish.new.self; freeing = c.freeing.result } in
    begins f c.args.left c.in-Some.leak.now (sym c.first.ensures ∙ ap option_copied c.in-Some.is) c.freeing.ensures
    ∙ ap (λ tally. leaks_left c.args.self.now.b1 c.args.self.now.b2 tally c.args.left) c.finish.ensures

pub returns-in-Some-clause-answer : goal.returns-in-Some-clause-answer
returns-in-Some-clause-answer c =
    let f : Frees = record { b1 = c.args.self.now.b1; b2 = c.args.self.now.b2; tally = c.finish.new.self; freeing = c.freeing.result } in
    asks_on f
    ∙ ap answer_in (begins f c.args.left c.in-Some.leak.now (sym c.first.ensures ∙ ap option_copied c.in-Some.is) c.freeing.ensures)
    ∙ ap (λ tally. answer_in (leaks_left c.args.self.now.b1 c.args.self.now.b2 tally c.args.left)) c.finish.ensures

pub returns-in-None-clause-answer : goal.returns-in-None-clause-answer
returns-in-None-clause-answer c =
    ap (λ done. Some (Collected done)) c.collected.ensures
    ∙ ap answer_in (none_left c.args.self.now.b1 c.args.self.now.b2 c.finish.new.self.0 c.finish.new.self.1 c.args.left
    (sym c.first.ensures ∙ ap option_copied c.in-None.is))
    ∙ ap (λ tally. answer_in (leaks_left c.args.self.now.b1 c.args.self.now.b2 tally c.args.left)) c.finish.ensures
