use Rattle.std.proofs.Common.{◌≡◌, ◌∙◌, subst, sym, List, ℕ, ◌++◌}
use Rattle.std.specs.Prelude.{OnOk, OnErr}
use Rattle.std.specs.Io.KnownBytes.{append_known}
use Rattle.ipam_io.specs.Streams.{AppendsPrefix}
use Rattle.ipam_play.specs.declared.end.PlayEnd.{PlayEnd}
use Rattle.ipam_play.specs.declared.end.PlayEnd.TheVariants as end
use Rattle.ipam_play.specs.Writing.{CountsEnd, HasWrittenJournal, held_in}
use Rattle.ipam_play.proofs.Closing.{counts_end, line_ends, line_text, never_done, never_fault, never_memory}
use Rattle.ipam_play.proofs.output.Output.refused.Goals as goal

pub returns-clause-written : goal.returns-clause-written
returns-clause-written g c = λ script first past wrote played.
    let is-text = line_text c.args.number c.args.why c.format.result.now c.text.result.now c.format.ensures.text c.text.ensures in
    subst (λ (e : PlayEnd). HasWrittenJournal e script first (g.K.Sink.written c.end.new.sink)) (sym c.ended.ensures)
    (line_ends c.end.result script first (g.K.Sink.written c.args.sink.now) (g.K.Sink.written c.end.new.sink) (held_in c.args.self.now) past c.args.number c.args.why wrote played
    (subst (λ (l : List ℕ). OnOk c.end.result (g.K.Sink.written c.end.new.sink ≡ append_known (g.K.Sink.written c.args.sink.now) (held_in c.args.self.now ++ l))) is-text c.end.ensures.wrote)
    (subst (λ (l : List ℕ). OnErr c.end.result (AppendsPrefix (g.K.Sink.written c.args.sink.now) (g.K.Sink.written c.end.new.sink) (held_in c.args.self.now ++ l))) is-text c.end.ensures.part))

pub returns-clause-counts : goal.returns-clause-counts
returns-clause-counts g c =
    let old = g.K.Sink.write_faults c.args.sink.now in
    let new = g.K.Sink.write_faults c.end.new.sink in
    subst (λ (e : PlayEnd). CountsEnd e old new) (sym c.ended.ensures) (counts_end c.end.result end.LineRefused old new (λ e. cc e) c.end.ensures.fault c.end.ensures.no_fault)

pub returns-clause-no_read_fault : goal.returns-clause-no_read_fault
returns-clause-no_read_fault g c = λ is. never_fault c.end.result end.LineRefused (λ e. cc e) (sym c.ended.ensures ∙ is)

pub returns-clause-not_done : goal.returns-clause-not_done
returns-clause-not_done g c = λ is. never_done c.end.result end.LineRefused (λ e. cc e) (sym c.ended.ensures ∙ is)

pub returns-clause-no_memory : goal.returns-clause-no_memory
returns-clause-no_memory g c = λ is. never_memory c.end.result end.LineRefused (λ e. cc e) (sym c.ended.ensures ∙ is)
