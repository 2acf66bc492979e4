use Rattle.std.proofs.Common.{◌≡◌, ◌∙◌, subst, sym, ◌⊎◌}
use Rattle.ipam_play.specs.declared.end.PlayEnd.{PlayEnd}
use Rattle.ipam_play.specs.declared.end.PlayEnd.TheVariants as end
use Rattle.ipam_play.specs.Writing.{CountsEnd, HasWrittenJournal}
use Rattle.ipam_play.proofs.Closing.{counts_end, fault_ends, fault_or_write, fault_so_far}
use Rattle.ipam_play.proofs.game.Game.read_fault.Goals as goal

pub returns-clause-written : goal.returns-clause-written
returns-clause-written g c = λ script first number more on.
    subst (λ (e : PlayEnd). HasWrittenJournal e script first (g.K.Sink.written c.end.new.sink)) (sym c.ended.ensures)
    (fault_ends c.end.result script first (g.K.Sink.written c.args.sink.now) (g.K.Sink.written c.end.new.sink) c.args.self.now number more on c.end.ensures.wrote c.end.ensures.part)

pub returns-clause-counts : goal.returns-clause-counts
returns-clause-counts g c =
    let old = g.K.Sink.write_faults c.args.sink.now in
    let new = g.K.Sink.write_faults c.end.new.sink in
    subst (λ (e : PlayEnd). CountsEnd e old new) (sym c.ended.ensures) (counts_end c.end.result end.ReadFault old new (λ e. cc e) c.end.ensures.fault c.end.ensures.no_fault)

pub returns-clause-faults : goal.returns-clause-faults
returns-clause-faults g c = subst (λ (e : PlayEnd). (e ≡ end.ReadFault) ⊎ (e ≡ end.WriteFault)) (sym c.ended.ensures) (fault_or_write c.end.result)

pub returns-clause-so_far : goal.returns-clause-so_far
returns-clause-so_far g c = λ script first number on is.
    fault_so_far c.end.result script first (g.K.Sink.written c.args.sink.now) (g.K.Sink.written c.end.new.sink) c.args.self.now number on c.end.ensures.wrote (sym c.ended.ensures ∙ is)
