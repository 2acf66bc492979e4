use Rattle.std.proofs.Common.{refl}
use Rattle.ipam_operator.proofs.Tries.{tries_again, tries_broken, tries_none, tries_stood}
use Rattle.ipam_operator.proofs.moment.ask_often.Goals as goal

pub tries-init : goal.tries-init
tries-init g c = λ came last rest. rest

pub tries-preserved : goal.tries-preserved
tries-preserved g c = λ came last rest.
    c.tries.invariant came last
    (tries_again c.tries.left _ c.tries-test.true refl came _ _ last (rw c.in-Ok-None.field-0-is at c.in-Ok-None.ensures.asked) rest)

pub returns-in-Ok-Some : goal.returns-in-Ok-Some
returns-in-Ok-Some g c = record {
  asked = c.tries.invariant _ _ (tries_stood c.tries.left c.tries-test.true c.in-Ok-Some.rows.items _ _ (rw c.in-Ok-Some.field-0-is at c.in-Ok-Some.ensures.asked));
}

pub returns-in-Err : goal.returns-in-Err
returns-in-Err g c = record { asked = c.tries.invariant _ _ (tries_broken c.tries.left c.tries-test.true c.in-Err.fault _ _ c.in-Err.ensures.asked) }

pub returns : goal.returns
returns g c = record { asked = c.tries.invariant _ _ (tries_none c.tries.left c.tries-test.false _) }
