use Rattle.std.proofs.Common.{inl, inr}
use Rattle.ipam_commands.proofs.ChangeRuns.{opened_ends, unopened_ends}
use Rattle.ipam_commands.proofs.changing.open_and_run.Goals as goal

pub run-came-requires-clause-first : goal.run-came-requires-clause-first
run-came-requires-clause-first g c = c.in-Ok.ensures.opened.entries

pub run-came-requires-clause-kept : goal.run-came-requires-clause-kept
run-came-requires-clause-kept g c = c.in-Ok.ensures.opened.stands

pub returns-in-Ok-clause-ended : goal.returns-in-Ok-clause-ended
returns-in-Ok-clause-ended g c =
    rw c.into_keeper.ensures
    (opened_ends g.D.Keeper.rows g.D.Keeper.faults g.D.Keeper.name c.args.keeper c.in-Ok.kept c.args.request.now c.run-came.result _ _
    c.in-Ok.ensures.opened c.run-came.ensures.ran)

pub returns-in-Err-clause-ended : goal.returns-in-Err-clause-ended
returns-in-Err-clause-ended g c =
    unopened_ends g.D.Keeper.rows g.D.Keeper.faults c.args.keeper c.in-Err.keeper c.args.request.now c.in-Err.fault _
    c.in-Err.ensures.refused.same_rows c.in-Err.ensures.refused.fault

pub returns-in-Ok-clause-want_of_memory_has_its_cause : goal.returns-in-Ok-clause-want_of_memory_has_its_cause
returns-in-Ok-clause-want_of_memory_has_its_cause g c = λ is. inr (c.run-came.ensures.want_of_memory_has_its_cause is)

pub returns-in-Err-clause-want_of_memory_has_its_cause : goal.returns-in-Err-clause-want_of_memory_has_its_cause
returns-in-Err-clause-want_of_memory_has_its_cause g c = λ is. inl (c.in-Err.ensures.want_of_memory_has_its_cause (cc is))
