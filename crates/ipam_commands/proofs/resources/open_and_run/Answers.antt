use Rattle.std.proofs.Common.{◌≡◌, ◌⊎◌, inr}
use Rattle.ipam_shared.specs.declared.kept.KeptFault.TheVariants as fault
use Rattle.ipam_commands.specs.Applied.{NotOpened}
use Rattle.ipam_commands.proofs.Wanting.{unopened_wants}
use Rattle.ipam_commands.proofs.Endings.{not-loaded, opened-ends}
use Rattle.ipam_commands.proofs.Readiness.{ready-again}
use Rattle.ipam_commands.proofs.resources.open_and_run.Goals as goal

pub run-end-requires-clause-ready : goal.run-end-requires-clause-ready
run-end-requires-clause-ready g c =
    ready-again g.D.Keeper.rows c.in-Ok.kept (_, (_, c.in-Ok.ensures.opened.stands)) c.in-Ok.ensures.opened.idle c.in-Ok.ensures.opened.sure

pub returns-in-Ok-clause-ended : goal.returns-in-Ok-clause-ended
returns-in-Ok-clause-ended g c =
    rw c.into_keeper.ensures
    (opened-ends g.D.Keeper.rows g.D.Keeper.faults g.D.Keeper.name c.args.keeper c.in-Ok.kept c.args.resources _ _ _ c.run-end.result
    c.in-Ok.ensures.opened (rw c.into_vec.ensures at c.run-end.ensures.ended))

pub returns-in-Err-clause-ended : goal.returns-in-Err-clause-ended
returns-in-Err-clause-ended g c =
    NotOpened c.in-Err.fault (not-loaded g.D.Keeper.rows g.D.Keeper.faults c.args.keeper c.in-Err.keeper c.in-Err.fault c.in-Err.ensures.refused.fault)
    c.in-Err.ensures.refused.same_rows c.tell_fault.ensures.written

pub returns-in-Ok-clause-want_of_memory_has_its_cause : goal.returns-in-Ok-clause-want_of_memory_has_its_cause
returns-in-Ok-clause-want_of_memory_has_its_cause g c = λ is. inr (inr (c.run-end.ensures.want_of_memory_has_its_cause is))

pub returns-in-Err-clause-want_of_memory_has_its_cause : goal.returns-in-Err-clause-want_of_memory_has_its_cause
returns-in-Err-clause-want_of_memory_has_its_cause g c =
    λ is. unopened_wants (c.in-Err.fault ≡ fault.Memory) (g.T.OpensKept.wants c.args.alloc) (g.T.MakesBroken.wants c.args.alloc)
    (g.T.MakesSteps.wants c.args.alloc ⊎ g.T.MakesLines.wants c.args.alloc) c.in-Err.ensures.want_of_memory_has_its_cause (c.tell_fault.ensures.want_of_memory_has_its_cause is)
