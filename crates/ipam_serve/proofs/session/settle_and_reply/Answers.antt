use Rattle.std.proofs.Common.{inl, refl}
use Rattle.ipam_serve.specs.Keeping.{at_keeper}
use Rattle.ipam_serve.proofs.Coming.{on-ok}
use Rattle.ipam_serve.proofs.Settled.{rose-none, unsettles-plain, untold-so, write-halts, write-reads}
use Rattle.ipam_serve.specs.Sessions.{is_read_fault, is_write_fault}
use Rattle.ipam_serve.proofs.session.settle_and_reply.Goals as goal

pub returns-in-Ok-clause-settled : goal.returns-in-Ok-clause-settled
returns-in-Ok-clause-settled g c = on-ok c.write_reply.result c.in-Ok.ensures.settled

pub returns-in-Ok-clause-known : goal.returns-in-Ok-clause-known
returns-in-Ok-clause-known g c = on-ok c.write_reply.result c.in-Ok.ensures.known

pub returns-in-Ok-clause-sure : goal.returns-in-Ok-clause-sure
returns-in-Ok-clause-sure g c = on-ok c.write_reply.result c.in-Ok.ensures.sure

pub returns-in-Ok-clause-ended : goal.returns-in-Ok-clause-ended
returns-in-Ok-clause-ended g c =
    untold-so (at_keeper g.D.Keeper.rows g.D.Keeper.settled g.D.Keeper.given g.D.Keeper.faults g.D.Keeper.broken) c.args.reply c.args.pass.now c.settle.new.pass (g.L.Sink.written c.args.link.now) (g.L.Sink.written c.write_reply.new.link)
    c.write_reply.result c.in-Ok.ensures.settled c.write_reply.ensures.part c.write_reply.ensures.cause

pub returns-in-Ok-clause-reads : goal.returns-in-Ok-clause-reads
returns-in-Ok-clause-reads g c = write-reads c.write_reply.result _ _ c.write_reply.ensures.cause c.write_reply.ensures.reads

pub returns-in-Ok-clause-not_halted : goal.returns-in-Ok-clause-not_halted
returns-in-Ok-clause-not_halted g c = write-halts c.write_reply.result c.write_reply.ensures.cause

pub returns-in-Err-clause-ended : goal.returns-in-Err-clause-ended
returns-in-Err-clause-ended g c = inl (c.in-Err.ensures.unsettled, refl)

pub returns-in-Err-clause-reads : goal.returns-in-Err-clause-reads
returns-in-Err-clause-reads g c = rose-none is_read_fault c.in-Err.end _ (unsettles-plain g.D.Keeper.rows g.D.Keeper.settled g.D.Keeper.given g.D.Keeper.faults g.D.Keeper.broken c.in-Err.end c.args.pass.now c.settle.new.pass c.in-Err.ensures.unsettled).0

pub returns-in-Err-clause-writes : goal.returns-in-Err-clause-writes
returns-in-Err-clause-writes g c = rose-none is_write_fault c.in-Err.end _ (unsettles-plain g.D.Keeper.rows g.D.Keeper.settled g.D.Keeper.given g.D.Keeper.faults g.D.Keeper.broken c.in-Err.end c.args.pass.now c.settle.new.pass c.in-Err.ensures.unsettled).1

pub returns-in-Err-clause-not_halted : goal.returns-in-Err-clause-not_halted
returns-in-Err-clause-not_halted g c = (unsettles-plain g.D.Keeper.rows g.D.Keeper.settled g.D.Keeper.given g.D.Keeper.faults g.D.Keeper.broken c.in-Err.end c.args.pass.now c.settle.new.pass c.in-Err.ensures.unsettled).2
