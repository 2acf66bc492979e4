use Rattle.ipam_commands.proofs.ChangeRuns.{answered_runs, has_outcome, stopped_runs}
use Rattle.ipam_commands.proofs.changing.run.Goals as goal

pub run_alone-requires-clause-kept : goal.run_alone-requires-clause-kept
run_alone-requires-clause-kept g c = (_, (_, c.requires.kept))

pub outcome_of-requires : goal.outcome_of-requires
outcome_of-requires g c =
    has_outcome g.D.Keeper.rows g.D.Keeper.faults c.args.request.now c.args.kept.now c.run_alone.new.kept c.requires.first c.requires.kept
    c.in-Ok.answer c.requires.change c.requires.sound c.in-Ok.ensures.can_answer c.in-Ok.ensures.answered

pub returns-in-Ok-clause-ran : goal.returns-in-Ok-clause-ran
returns-in-Ok-clause-ran g c =
    answered_runs g.D.Keeper.rows g.D.Keeper.faults c.args.request.now c.args.kept.now c.run_alone.new.kept c.requires.first c.requires.kept
    c.in-Ok.answer c.outcome_of.result c.requires.change c.in-Ok.ensures.can_answer c.in-Ok.ensures.answered c.outcome_of.ensures.comes

pub returns-in-Err-clause-ran : goal.returns-in-Err-clause-ran
returns-in-Err-clause-ran g c =
    stopped_runs g.D.Keeper.rows g.D.Keeper.faults c.args.request.now c.args.kept.now c.run_alone.new.kept c.requires.first c.requires.kept
    c.requires.sure c.in-Err.ensures.stopped

pub returns-in-Ok-clause-want_of_memory_has_its_cause : goal.returns-in-Ok-clause-want_of_memory_has_its_cause
returns-in-Ok-clause-want_of_memory_has_its_cause g c = λ is. absurd (c.outcome_of.ensures.no_want is)

pub returns-in-Err-clause-want_of_memory_has_its_cause : goal.returns-in-Err-clause-want_of_memory_has_its_cause
returns-in-Err-clause-want_of_memory_has_its_cause g c = λ is. c.in-Err.ensures.want_of_memory_has_its_cause
