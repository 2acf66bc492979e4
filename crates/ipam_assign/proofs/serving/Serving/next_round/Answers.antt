use Rattle.std.proofs.Common.{◌∙◌, sym, refl}
use Rattle.ipam_assign.proofs.ServingLemmas.{next_asks, round_begins}
use Rattle.ipam_assign.proofs.serving.Serving.next_round.Goals as goal

pub returns-in-Some-clause-answer : goal.returns-in-Some-clause-answer
returns-in-Some-clause-answer c = λ request.
    next_asks request c.args.self.now c.in-Some.rounds c.args.now (sym c.next.ensures ∙ c.in-Some.is)

pub returns-in-Some-clause-on : goal.returns-in-Some-clause-on
returns-in-Some-clause-on c = λ request.
    round_begins request c.args.self.now
    (record {
      family = c.args.self.now.family;
      rounds = c.in-Some.rounds;
      left = c.args.now;
      step = c.begin_round.new.step;
    })
    c.in-Some.rounds c.args.now (sym c.next.ensures ∙ c.in-Some.is) refl refl refl c.begin_round.ensures
