use Rattle.std.proofs.Common.{inl}
use Rattle.ipam_shared.specs.Durable.{TellsOnceSure}
use Rattle.ipam_shared.proofs.OnceSure.{sure-answered, sure-can, sure-idle, sure-kept, unsure-so}
use Rattle.ipam_shared.proofs.Ending.{stays-idle, stays-kept}
use Rattle.ipam_shared.proofs.Running.{either-then, err-then, ok-then}
use Rattle.ipam_shared.proofs.durable.run_durable.Goals as goal

pub returns-in-Ok-clause-answered : goal.returns-in-Ok-clause-answered
returns-in-Ok-clause-answered g c =
    ok-then (TellsOnceSure g.D.Keeper.rows g.D.Keeper.settled g.D.Keeper.faults c.run_alone.new.kept c.once_sure.new.kept c.in-Ok.answer) _
    c.once_sure.result c.once_sure.ensures.told
    (sure-answered g.D.Keeper.rows g.D.Keeper.settled g.D.Keeper.faults c.args.request.now c.args.kept.now c.run_alone.new.kept c.once_sure.new.kept
    c.in-Ok.answer c.in-Ok.ensures.answered)

pub returns-in-Ok-clause-can_answer : goal.returns-in-Ok-clause-can_answer
returns-in-Ok-clause-can_answer g c =
    ok-then (TellsOnceSure g.D.Keeper.rows g.D.Keeper.settled g.D.Keeper.faults c.run_alone.new.kept c.once_sure.new.kept c.in-Ok.answer) _
    c.once_sure.result c.once_sure.ensures.told
    (sure-can g.D.Keeper.rows g.D.Keeper.settled g.D.Keeper.faults c.args.request.now c.args.kept.now c.run_alone.new.kept c.once_sure.new.kept
    c.in-Ok.answer c.in-Ok.ensures.can_answer)

pub returns-in-Ok-clause-stopped : goal.returns-in-Ok-clause-stopped
returns-in-Ok-clause-stopped g c =
    err-then c.once_sure.result c.once_sure.ensures.untold
    (unsure-so g.D.Keeper.rows g.D.Keeper.settled g.D.Keeper.faults c.args.request.now c.args.kept.now c.run_alone.new.kept c.once_sure.new.kept
    c.in-Ok.answer c.in-Ok.ensures.can_answer c.in-Ok.ensures.answered)

pub returns-in-Ok-clause-idle : goal.returns-in-Ok-clause-idle
returns-in-Ok-clause-idle g c =
    either-then (TellsOnceSure g.D.Keeper.rows g.D.Keeper.settled g.D.Keeper.faults c.run_alone.new.kept c.once_sure.new.kept c.in-Ok.answer)
    c.once_sure.result c.once_sure.ensures.told c.once_sure.ensures.untold
    (sure-idle g.D.Keeper.rows g.D.Keeper.settled g.D.Keeper.faults c.args.request.now c.args.kept.now c.run_alone.new.kept c.once_sure.new.kept
    c.in-Ok.answer c.run_alone.ensures.idle)
    (λ so. stays-idle g.D.Keeper.rows c.run_alone.new.kept c.once_sure.new.kept c.run_alone.ensures.idle so.only.stays)

pub returns-in-Ok-clause-kept : goal.returns-in-Ok-clause-kept
returns-in-Ok-clause-kept g c =
    either-then (TellsOnceSure g.D.Keeper.rows g.D.Keeper.settled g.D.Keeper.faults c.run_alone.new.kept c.once_sure.new.kept c.in-Ok.answer)
    c.once_sure.result c.once_sure.ensures.told c.once_sure.ensures.untold
    (sure-kept g.D.Keeper.rows g.D.Keeper.settled g.D.Keeper.faults c.args.request.now c.args.kept.now c.run_alone.new.kept c.once_sure.new.kept
    c.in-Ok.answer c.run_alone.ensures.kept)
    (λ so. stays-kept g.D.Keeper.rows c.run_alone.new.kept c.once_sure.new.kept c.run_alone.ensures.kept so.only.stays)

pub returns-in-Err-clause-stopped : goal.returns-in-Err-clause-stopped
returns-in-Err-clause-stopped g c = inl c.in-Err.ensures.stopped
