use Rattle.std.proofs.Common.{◌≡◌, Err, inl, inr, ap, arith}
use Rattle.std.specs.Option.{option_copied}
use Rattle.ipam_shared.proofs.Given.{failed-both, on-failed, settles-after}
use Rattle.ipam_shared.proofs.giving.give.Goals as goal

-- the row in doubt was given back
pub returns-in_err-put_back-clause-failed : goal.returns-in_err-put_back-clause-failed
returns-in_err-put_back-clause-failed g c =
    let told : c.from_residual.result ≡ Err c.in_err-put_back.field-0.0 = grind arith in
    on-failed c.from_residual.result c.in_err-put_back.field-0.0 told c.in_err-put_back.ensures.failed (λ back. inl back)

-- the call's own write was given
pub returns-in-Some-clause-failed : goal.returns-in-Some-clause-failed
returns-in-Some-clause-failed g c =
    failed-both c.give_write.result c.give_write.ensures.failed c.give_write.ensures.given (λ now given. inr (record {
      done = c.in-Some.write.now;
      asked = ap option_copied c.in-Some.is;
      now = now;
      between = c.put_back.new.keeper;
      first = c.put_back.ensures.nothing;
      given = given;
    }))

pub returns-in_err-put_back-clause-settled : goal.returns-in_err-put_back-clause-settled
returns-in_err-put_back-clause-settled g c = λ sound are. inl c.put_back.ensures.settled

pub returns-in-Some-clause-settled : goal.returns-in-Some-clause-settled
returns-in-Some-clause-settled g c =
    settles-after c.args.store.now.store (g.D.Keeper.rows c.args.keeper.now) (g.D.Keeper.rows c.put_back.new.keeper) (g.D.Keeper.rows c.give_write.new.keeper) c.args.doubt.now c.put_back.new.doubt
    (g.D.Keeper.settled c.args.keeper.now) (g.D.Keeper.settled c.put_back.new.keeper) (g.D.Keeper.settled c.give_write.new.keeper)
    c.put_back.ensures.kept c.in_ok-put_back.ensures.sure c.put_back.ensures.settled c.give_write.ensures.settled

pub returns-in-None-clause-settled : goal.returns-in-None-clause-settled
returns-in-None-clause-settled g c = λ sound are. inl c.put_back.ensures.settled
