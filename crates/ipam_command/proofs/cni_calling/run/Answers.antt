use Rattle.std.proofs.Common.{◌⊎◌, inl, inr}
use Rattle.ipam_command.proofs.Runs.{answered_ends, stopped_ends}
use Rattle.ipam_command.proofs.Told.{on_want}
use Rattle.ipam_command.proofs.cni_calling.run.Goals as goal

pub run_alone-requires-clause-kept : goal.run_alone-requires-clause-kept
run_alone-requires-clause-kept g c = (_, (_, c.requires.kept))

pub returns-in-Ok-clause-ended : goal.returns-in-Ok-clause-ended
returns-in-Ok-clause-ended g c =
    answered_ends g.D.Keeper.rows g.D.Keeper.faults c.args.request.now c.args.kept.now c.run_alone.new.kept c.requires.first c.requires.kept
    c.args.version c.in-Ok.answer c.answer_end.result c.in-Ok.ensures.answered c.answer_end.ensures.ends

pub returns-in-Err-clause-ended : goal.returns-in-Err-clause-ended
returns-in-Err-clause-ended g c =
    stopped_ends g.D.Keeper.rows g.D.Keeper.faults c.args.request.now c.args.kept.now c.run_alone.new.kept c.requires.first c.requires.kept
    c.args.version c.requires.sure c.in-Err.ensures.stopped

pub returns-in-Ok-clause-want_of_memory_has_its_cause : goal.returns-in-Ok-clause-want_of_memory_has_its_cause
returns-in-Ok-clause-want_of_memory_has_its_cause g c =
    on_want (g.T.MakesTexts.wants c.args.alloc) (g.T.MakesSteps.wants c.args.alloc ⊎ g.T.MakesTexts.wants c.args.alloc) c.answer_end.result
    (λ w. inr w) c.answer_end.ensures.want_of_memory_has_its_cause

pub returns-in-Err-clause-want_of_memory_has_its_cause : goal.returns-in-Err-clause-want_of_memory_has_its_cause
returns-in-Err-clause-want_of_memory_has_its_cause g c = inl c.in-Err.ensures.want_of_memory_has_its_cause
