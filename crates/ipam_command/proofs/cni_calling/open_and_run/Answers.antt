use Rattle.std.proofs.Common.{◌≡◌, ◌⊎◌, inr}
use Rattle.ipam_shared.specs.declared.kept.KeptFault.TheVariants as fault
use Rattle.ipam_command.proofs.Openings.{opened_ends, unopened_ends}
use Rattle.ipam_command.proofs.Told.{on_want, unopened_wants}
use Rattle.ipam_command.proofs.cni_calling.open_and_run.Goals as goal

pub run-end-requires-clause-first : goal.run-end-requires-clause-first
run-end-requires-clause-first g c = c.in-Ok.ensures.opened.entries

pub run-end-requires-clause-kept : goal.run-end-requires-clause-kept
run-end-requires-clause-kept g c = c.in-Ok.ensures.opened.stands

pub returns-in-Ok-clause-ends : goal.returns-in-Ok-clause-ends
returns-in-Ok-clause-ends g c =
    rw c.into_keeper.ensures
    (opened_ends g.D.Keeper.rows g.D.Keeper.faults g.D.Keeper.name c.args.keeper c.in-Ok.kept c.args.request.now c.args.version c.run-end.result _ _ c.in-Ok.ensures.opened c.run-end.ensures.ended)

pub returns-in-Err-clause-ends : goal.returns-in-Err-clause-ends
returns-in-Err-clause-ends g c =
    unopened_ends g.D.Keeper.rows g.D.Keeper.faults c.args.keeper c.in-Err.keeper c.args.request.now c.args.version c.in-Err.fault c.not_opened.result _
    c.in-Err.ensures.refused.same_rows c.in-Err.ensures.refused.fault c.not_opened.ensures.ends

pub returns-in-Ok-clause-want_of_memory_has_its_cause : goal.returns-in-Ok-clause-want_of_memory_has_its_cause
returns-in-Ok-clause-want_of_memory_has_its_cause g c =
    on_want (g.T.MakesSteps.wants c.args.alloc ⊎ g.T.MakesTexts.wants c.args.alloc)
    (g.T.OpensKept.wants c.args.alloc ⊎ g.T.MakesSteps.wants c.args.alloc ⊎ g.T.MakesTexts.wants c.args.alloc) c.run-end.result
    (λ w. inr w) c.run-end.ensures.want_of_memory_has_its_cause

pub returns-in-Err-clause-want_of_memory_has_its_cause : goal.returns-in-Err-clause-want_of_memory_has_its_cause
returns-in-Err-clause-want_of_memory_has_its_cause g c =
    unopened_wants (c.in-Err.fault ≡ fault.Memory) (g.T.OpensKept.wants c.args.alloc) (g.T.MakesSteps.wants c.args.alloc) (g.T.MakesTexts.wants c.args.alloc) c.not_opened.result
    c.in-Err.ensures.want_of_memory_has_its_cause c.not_opened.ensures.want_of_memory_has_its_cause
