use Rattle.std.proofs.Common.{◌∙◌, sym, refl}
use Rattle.ipam_assign.proofs.AddThisLemmas.{round_begins}
use Rattle.ipam_assign.proofs.add_this.AddThisProc.next_round.Goals as goal

pub returns-in-Some-clause-on : goal.returns-in-Some-clause-on
returns-in-Some-clause-on c =
    round_begins c.args.self.now
    (record {
      request = c.args.self.now.request;
      address = c.args.self.now.address;
      rounds = c.in-Some.rounds;
      left = c.args.now;
      stage = c.begin_round.new.stage;
    })
    c.in-Some.rounds c.args.now (sym c.next.ensures ∙ c.in-Some.is) refl refl refl refl c.begin_round.ensures
