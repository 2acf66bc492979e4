use Rattle.ipam_shared.proofs.Ending.{on-err}
use Rattle.ipam_shared.proofs.StepLemmas.{no-answer}
use Rattle.ipam_shared.proofs.going.go_on.Goals as goal

pub loop-answer-init : goal.loop-answer-init
loop-answer-init g c = record {
  runs = c.requires.runs;
  goes = c.requires.goes;
}

pub returns-in_err-answer-clause-wants : goal.returns-in_err-answer-clause-wants
returns-in_err-answer-clause-wants g c =
    on-err c.from_residual.result (c.in_err-answer.ensures.wants c.args.kept.now c.loop-answer.invariant.goes)

pub returns-in-Some-clause-ended : goal.returns-in-Some-clause-ended
returns-in-Some-clause-ended g c =
    (rw c.in-Some.is at c.in_ok-answer.ensures.ends) c.args.kept.now c.loop-answer.invariant.goes

pub loop-answer-smaller : goal.loop-answer-smaller
loop-answer-smaller g c = rw (no-answer _ c.in_default.not-Some) at c.in_ok-answer.ensures.fewer

pub loop-answer-preserved : goal.loop-answer-preserved
loop-answer-preserved g c = record {
  runs = rw (no-answer _ c.in_default.not-Some) at c.in_ok-answer.ensures.runs;
  goes = (rw (no-answer _ c.in_default.not-Some) at c.in_ok-answer.ensures.goes) c.args.kept.now c.loop-answer.invariant.goes;
}
