use Rattle.std.proofs.Common.{◌≤◌, refl}
use Rattle.ipam_shared.proofs.Settled.{known-settled}
use Rattle.ipam_serve.proofs.Coming.{one-err, sees-none, spent-not}
use Rattle.ipam_serve.proofs.Settled.{cant-settle, ends-so, settles-none, settles-turn}
use Rattle.ipam_serve.proofs.settling.settle.Goals as goal

pub returns-then-is_sure-clause-settles : goal.returns-then-is_sure-clause-settles
returns-then-is_sure-clause-settles g c = settles-none c.args.pass.now

pub returns-then-is_sure-clause-settled : goal.returns-then-is_sure-clause-settled
returns-then-is_sure-clause-settled g c =
    known-settled g.D.Keeper.rows g.D.Keeper.settled c.args.pass.now c.requires.sure (c.is_sure.ensures.sure.0 c.if-is_sure.true) c.is_sure.ensures.reached

pub returns-then-left-lt2-clause-settles : goal.returns-then-left-lt2-clause-settles
returns-then-left-lt2-clause-settles g c = settles-none c.args.pass.now

pub returns-then-left-lt2-clause-unsettled : goal.returns-then-left-lt2-clause-unsettled
returns-then-left-lt2-clause-unsettled g c = (
  refl,
  cant-settle c.args.pass.now c.is_sure.result c.is_sure.ensures.sure c.if-is_sure.false (rw (← c.left.ensures) c.if-left-lt2.true),
)

pub returns-then-is_sure-clause-known : goal.returns-then-is_sure-clause-known
returns-then-is_sure-clause-known g c = c.is_sure.ensures.sure.0 c.if-is_sure.true

pub returns-in-Ok-clause-known : goal.returns-in-Ok-clause-known
returns-in-Ok-clause-known g c = c.in-Ok.ensures.knows.0

pub returns-in-Ok-clause-sure : goal.returns-in-Ok-clause-sure
returns-in-Ok-clause-sure g c = c.in-Ok.ensures.knows.1

pub returns-in-Ok-clause-settles : goal.returns-in-Ok-clause-settles
returns-in-Ok-clause-settles g c =
    let enough : 2 ≤ c.args.pass.now.left = rw (← c.left.ensures) c.if-left-lt2.false in
    settles-turn c.args.pass.now c.settle.new.pass c.in-Ok.ensures.same c.in-Ok.ensures.seen c.in-Ok.ensures.left enough c.in-Ok.ensures.moment

pub returns-in-Err-clause-settles : goal.returns-in-Err-clause-settles
returns-in-Err-clause-settles g c =
    let enough : 2 ≤ c.args.pass.now.left = rw (← c.left.ensures) c.if-left-lt2.false in
    settles-turn c.args.pass.now c.settle.new.pass c.in-Err.ensures.same
    (sees-none c.args.pass.now c.settle.new.pass c.in-Err.fault c.in-Err.ensures.spent enough c.in-Err.ensures.seen)
    (one-err c.args.pass.now c.settle.new.pass c.in-Err.fault c.in-Err.ensures.spent enough c.in-Err.ensures.left) enough c.in-Err.ensures.moment

pub returns-in-Err-clause-unsettled : goal.returns-in-Err-clause-unsettled
returns-in-Err-clause-unsettled g c =
    let enough : 2 ≤ c.args.pass.now.left = rw (← c.left.ensures) c.if-left-lt2.false in
    ends-so g.D.Keeper.rows g.D.Keeper.settled g.D.Keeper.given g.D.Keeper.faults g.D.Keeper.broken c.args.pass.now c.settle.new.pass c.in-Err.fault c.unsettled.result
    (spent-not c.args.pass.now c.settle.new.pass c.in-Err.fault c.in-Err.ensures.spent enough) c.unsettled.ensures.failed c.unsettled.ensures.memory c.unsettled.ensures.others
    (sees-none c.args.pass.now c.settle.new.pass c.in-Err.fault c.in-Err.ensures.spent enough c.in-Err.ensures.seen) c.in-Err.ensures.keeper
