use Rattle.std.proofs.Common.{◌∙◌, subst, sym, refl}
use Rattle.ipam_play.specs.declared.end.PlayEnd.{PlayEnd}
use Rattle.ipam_play.specs.declared.end.PlayEnd.TheVariants as end
use Rattle.ipam_play.specs.declared.halt.Halt.{Halt}
use Rattle.ipam_play.specs.Halting.{IsHalted, held_by}
use Rattle.ipam_play.specs.Writing.{CountsEnd, HasWrittenJournal}
use Rattle.ipam_play.specs.declared.game.Game.{Game}
use Rattle.ipam_play.proofs.Closing.{all_played, counts_end, end_halts, finishes_known, never_fault, never_memory, never_write, whole_ends}
use Rattle.ipam_play.proofs.game.Game.finish.Goals as goal

pub returns-in-Ok-clause-written : goal.returns-in-Ok-clause-written
returns-in-Ok-clause-written g c = λ script first next on.
    let f = finishes_known c.args.self.now.player c.finish.new.self c.in-Ok.is (record { gathered = c.finish.ensures.gathered; played = c.finish.ensures.played }) in
    let all = all_played _ script first (g.K.Sink.written c.args.sink.now) c.args.self.now c.finish.new.self next f on in
    subst (λ (e : PlayEnd). HasWrittenJournal e script first (g.K.Sink.written c.end.new.sink)) (sym c.ended.ensures)
    (whole_ends c.end.result script first (g.K.Sink.written c.args.sink.now) (g.K.Sink.written c.end.new.sink) (held_by c.args.self.now) all.past all.wrote all.is_played c.end.ensures.wrote c.end.ensures.part)

pub returns-in-Ok-clause-counts : goal.returns-in-Ok-clause-counts
returns-in-Ok-clause-counts g c =
    let old = g.K.Sink.write_faults c.args.sink.now in
    let new = g.K.Sink.write_faults c.end.new.sink in
    subst (λ (e : PlayEnd). CountsEnd e old new) (sym c.ended.ensures) (counts_end c.end.result end.Done old new (λ e. cc e) c.end.ensures.fault c.end.ensures.no_fault)

pub returns-in-Ok-clause-no_read_fault : goal.returns-in-Ok-clause-no_read_fault
returns-in-Ok-clause-no_read_fault g c = λ is. never_fault c.end.result end.Done (λ e. cc e) (sym c.ended.ensures ∙ is)

pub returns-in-Ok-clause-no_memory : goal.returns-in-Ok-clause-no_memory
returns-in-Ok-clause-no_memory g c = λ base store past playing is. never_memory c.end.result end.Done (λ e. cc e) (sym c.ended.ensures ∙ is)

pub returns-in-Err-clause-no_memory : goal.returns-in-Err-clause-no_memory
returns-in-Err-clause-no_memory g c = λ base store past playing.
    let f = finishes_known c.args.self.now.player c.finish.new.self c.in-Err.is (record { gathered = c.finish.ensures.gathered; played = c.finish.ensures.played }) in
    absurd (cc (f.played base store past playing))

pub returns-in-Err-clause-written : goal.returns-in-Err-clause-written
returns-in-Err-clause-written g c = λ script first next on.
    let mid : Game = record { player = c.finish.new.self; output = c.args.self.now.output } in
    let f = finishes_known c.args.self.now.player c.finish.new.self c.in-Err.is (record { gathered = c.finish.ensures.gathered; played = c.finish.ensures.played }) in
    c.halted.ensures.written script first
    (subst (λ (k : Halt). IsHalted k script first (g.K.Sink.written c.args.sink.now) mid c.args.number) (sym c.of.ensures)
    (end_halts c.in-Err.fault script first (g.K.Sink.written c.args.sink.now) c.args.self.now mid next c.args.number refl f on))

pub returns-in-Err-clause-counts : goal.returns-in-Err-clause-counts
returns-in-Err-clause-counts g c = c.halted.ensures.counts (λ is. never_write c.in-Err.fault (sym c.of.ensures ∙ is))
