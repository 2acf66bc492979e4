use Rattle.std.proofs.Common.{◌≡◌, ◌∙◌, ◌<◌, ◌≤◌, ℕ, ap, refl, subst, arith}
use Rattle.std.specs.Prelude.{Ok}
use Rattle.ipam_io.specs.Counts.{Rose}
use Rattle.ipam_play.specs.Readings.{TakesLine, TakesNone, coming, readings}
use Rattle.ipam_play.specs.Script.{script_of}
use Rattle.ipam_play.specs.declared.end.PlayEnd.TheVariants as end
use Rattle.ipam_play.specs.Writing.{HasWrittenJournal}
use Rattle.ipam_play.proofs.Closing.{counts_halted, counts_same, ends_rose, ends_same, fault_is_told, fault_not_done, on_front, refused_is_other, want_not_done, want_not_fault, want_not_write}
use Rattle.ipam_play.proofs.Runs.{all_so_far, answered, answers_known, end_on_next, first_so_far, goes_first, if_known, last_on_next, line_on_next, line_so_far, refused_on_next}
use Rattle.ipam_play.proofs.run.play_lines.Goals as goal

pub loop-line-init : goal.loop-line-init
loop-line-init g c = record {
  goes = λ bytes is. goes_first c.args.lines.now (g.S.Source.left c.args.source.now) (g.K.Sink.written c.args.sink.now) bytes c.args.game.now c.requires.unread c.requires.start c.requires.gathering c.requires.held is;
  so_far = first_so_far c.args.lines.now (g.S.Source.left c.args.source.now) (g.K.Sink.written c.args.sink.now) c.args.game.now c.requires.unread c.requires.start c.requires.gathering c.requires.held;
  standing = c.requires.standing;
  few = omega arith;
  reads = refl;
  read_rest = refl;
  writes = refl;
  write_rest = refl;
}

pub loop-line-preserved : goal.loop-line-preserved
loop-line-preserved g c = record {
  goes = λ bytes is.
      let script = script_of (readings bytes) in
      let first = g.K.Sink.written c.args.sink.now in
      let now = g.K.Sink.written c.loop-line.sink in
      let after = coming c.next.new.self (g.S.Source.left c.next.new.source) in
      let a = answers_known after script first now c.loop-line.game c.loop-line.number (c.in-Ok-Line.is ∙ ap Ok c.in-Ok-Line.field-0-is)
      (answered c.next.result (coming c.loop-line.lines (g.S.Source.left c.loop-line.source)) after script first now c.loop-line.game c.loop-line.number c.next.ensures.next (c.loop-line.invariant.goes bytes is)) in
      record {
        more = a.behind;
        known = a.is_after;
        on = c.in_default.ensures.on script first c.loop-line.number a.behind (line_on_next c.in-Ok-Line.line after script first now c.loop-line.game c.loop-line.number a);
      };
  so_far =
      let takes : TakesLine c.in-Ok-Line.line c.loop-line.lines c.next.new.self (g.S.Source.left c.loop-line.source) (g.S.Source.left c.next.new.source) = rw c.in-Ok-Line.field-0-is at c.in-Ok-Line.ensures.takes in
      line_so_far c.in-Ok-Line.line c.loop-line.lines c.next.new.self _ (g.S.Source.left c.loop-line.source) (g.S.Source.left c.next.new.source) (g.K.Sink.written c.args.sink.now) (g.K.Sink.written c.loop-line.sink) _ c.loop-line.game _ c.loop-line.number
      c.loop-line.invariant.so_far takes (λ script more on. c.in_default.ensures.on script (g.K.Sink.written c.args.sink.now) c.loop-line.number more on);
  standing = c.line-played.ensures.standing;
  few =
      let up : c.loop-line.lines.before.bytes < c.next.new.self.before.bytes = rw c.in-Ok-Line.field-0-is at c.in-Ok-Line.ensures.onward in
      let few = c.loop-line.invariant.few in
      omega arith;
  reads = c.in-Ok-Line.ensures.no_fault ∙ c.loop-line.invariant.reads;
  read_rest = c.next.ensures.rest ∙ c.loop-line.invariant.read_rest;
  writes = c.in_default.ensures.counts ∙ c.loop-line.invariant.writes;
  write_rest = c.line-played.ensures.rest ∙ c.loop-line.invariant.write_rest;
}

pub loop-line-smaller : goal.loop-line-smaller
loop-line-smaller g c =
    let up : c.loop-line.lines.before.bytes < c.next.new.self.before.bytes = rw c.in-Ok-Line.field-0-is at c.in-Ok-Line.ensures.onward in
    let within : c.next.new.self.before.bytes ≤ 67108865 = rw c.in-Ok-Line.field-0-is at c.in-Ok-Line.ensures.within in
    omega arith

pub returns-in-Err-clause-written : goal.returns-in-Err-clause-written
returns-in-Err-clause-written g c =
    let first = g.K.Sink.written c.args.sink.now in
    let now = g.K.Sink.written c.loop-line.sink in
    let after = coming c.next.new.self (g.S.Source.left c.next.new.source) in
    if_known (g.S.Source.left c.args.source.now) (λ bytes. HasWrittenJournal c.halted.result (script_of (readings bytes)) first (g.K.Sink.written c.halted.new.sink)) (λ bytes is.
    let script = script_of (readings bytes) in
    let goes = c.loop-line.invariant.goes bytes is in
    let a = answers_known after script first now c.loop-line.game c.loop-line.number (c.in-Ok-Line.is ∙ ap Ok c.in-Ok-Line.field-0-is)
    (answered c.next.result (coming c.loop-line.lines (g.S.Source.left c.loop-line.source)) after script first now c.loop-line.game c.loop-line.number c.next.ensures.next goes) in
    c.halted.ensures.written script first
    (c.in-Err.ensures.on script first c.loop-line.number a.behind (line_on_next c.in-Ok-Line.line after script first now c.loop-line.game c.loop-line.number a)))

pub returns-in-Ok-Last-clause-written : goal.returns-in-Ok-Last-clause-written
returns-in-Ok-Last-clause-written g c =
    let first = g.K.Sink.written c.args.sink.now in
    let now = g.K.Sink.written c.loop-line.sink in
    let after = coming c.next.new.self (g.S.Source.left c.next.new.source) in
    if_known (g.S.Source.left c.args.source.now) (λ bytes. HasWrittenJournal c.last_line-end.result (script_of (readings bytes)) first (g.K.Sink.written c.last_line-end.new.sink)) (λ bytes is.
    let script = script_of (readings bytes) in
    let goes = c.loop-line.invariant.goes bytes is in
    let a = answers_known after script first now c.loop-line.game c.loop-line.number (c.in-Ok-Last.is ∙ ap Ok c.in-Ok-Last.field-0-is)
    (answered c.next.result (coming c.loop-line.lines (g.S.Source.left c.loop-line.source)) after script first now c.loop-line.game c.loop-line.number c.next.ensures.next goes) in
    c.last_line-end.ensures.written script first (last_on_next c.in-Ok-Last.line after script first now c.loop-line.game c.loop-line.number a))

pub returns-in-Ok-Refused-clause-written : goal.returns-in-Ok-Refused-clause-written
returns-in-Ok-Refused-clause-written g c =
    let first = g.K.Sink.written c.args.sink.now in
    let now = g.K.Sink.written c.loop-line.sink in
    let after = coming c.next.new.self (g.S.Source.left c.next.new.source) in
    if_known (g.S.Source.left c.args.source.now) (λ bytes. HasWrittenJournal c.halted-in-Ok-Refused.result (script_of (readings bytes)) first (g.K.Sink.written c.halted-in-Ok-Refused.new.sink)) (λ bytes is.
    let script = script_of (readings bytes) in
    let goes = c.loop-line.invariant.goes bytes is in
    let a = answers_known after script first now c.loop-line.game c.loop-line.number (c.in-Ok-Refused.is ∙ ap Ok c.in-Ok-Refused.field-0-is)
    (answered c.next.result (coming c.loop-line.lines (g.S.Source.left c.loop-line.source)) after script first now c.loop-line.game c.loop-line.number c.next.ensures.next goes) in
    c.halted-in-Ok-Refused.ensures.written script first (refused_on_next c.in-Ok-Refused.why after script first now c.loop-line.game c.loop-line.number a))

pub returns-in-Ok-End-clause-written : goal.returns-in-Ok-End-clause-written
returns-in-Ok-End-clause-written g c =
    let first = g.K.Sink.written c.args.sink.now in
    let now = g.K.Sink.written c.loop-line.sink in
    let after = coming c.next.new.self (g.S.Source.left c.next.new.source) in
    if_known (g.S.Source.left c.args.source.now) (λ bytes. HasWrittenJournal c.finish.result (script_of (readings bytes)) first (g.K.Sink.written c.finish.new.sink)) (λ bytes is.
    let script = script_of (readings bytes) in
    let goes = c.loop-line.invariant.goes bytes is in
    let a = answers_known after script first now c.loop-line.game c.loop-line.number (c.in-Ok-End.is ∙ ap Ok c.in-Ok-End.field-0-is)
    (answered c.next.result (coming c.loop-line.lines (g.S.Source.left c.loop-line.source)) after script first now c.loop-line.game c.loop-line.number c.next.ensures.next goes) in
    c.finish.ensures.written script first c.loop-line.number (end_on_next after script first now c.loop-line.game c.loop-line.number a))

pub returns-in-Err-Read-clause-written : goal.returns-in-Err-Read-clause-written
returns-in-Err-Read-clause-written g c =
    let first = g.K.Sink.written c.args.sink.now in
    let now = g.K.Sink.written c.loop-line.sink in
    let after = coming c.next.new.self (g.S.Source.left c.next.new.source) in
    if_known (g.S.Source.left c.args.source.now) (λ bytes. HasWrittenJournal c.read_fault.result (script_of (readings bytes)) first (g.K.Sink.written c.read_fault.new.sink)) (λ bytes is.
    let script = script_of (readings bytes) in
    let goes = c.loop-line.invariant.goes bytes is in
    c.read_fault.ensures.written script first c.loop-line.number goes.more goes.on)

pub returns-in-Err-Memory-clause-written : goal.returns-in-Err-Memory-clause-written
returns-in-Err-Memory-clause-written g c =
    let first = g.K.Sink.written c.args.sink.now in
    let now = g.K.Sink.written c.loop-line.sink in
    let after = coming c.next.new.self (g.S.Source.left c.next.new.source) in
    if_known (g.S.Source.left c.args.source.now) (λ bytes. HasWrittenJournal end.NoMemory (script_of (readings bytes)) first (g.K.Sink.written c.loop-line.sink)) (λ bytes is.
    let script = script_of (readings bytes) in
    let goes = c.loop-line.invariant.goes bytes is in
    on_front script first now c.loop-line.game c.loop-line.number goes.more goes.on)

pub returns-in-Err-clause-read : goal.returns-in-Err-clause-read
returns-in-Err-clause-read g c = λ is. absurd (c.halted.ensures.not_done is)

pub returns-in-Ok-Refused-clause-read : goal.returns-in-Ok-Refused-clause-read
returns-in-Ok-Refused-clause-read g c = λ is. absurd (c.halted-in-Ok-Refused.ensures.not_done is)

pub returns-in-Err-Read-clause-read : goal.returns-in-Err-Read-clause-read
returns-in-Err-Read-clause-read g c = λ is. absurd (fault_not_done c.read_fault.result c.read_fault.ensures.faults is)

pub returns-in-Err-Read-clause-no_read_fault : goal.returns-in-Err-Read-clause-no_read_fault
returns-in-Err-Read-clause-no_read_fault g c = λ not_read not_write. absurd (fault_is_told c.read_fault.result c.read_fault.ensures.faults not_read not_write)

pub returns-in-Err-Read-clause-so_far : goal.returns-in-Err-Read-clause-so_far
returns-in-Err-Read-clause-so_far g c = λ is.
    let takes : TakesNone c.loop-line.lines c.next.new.self (g.S.Source.left c.loop-line.source) (g.S.Source.left c.next.new.source) = rw c.in-Err-Read.field-0-is at c.in-Err-Read.ensures.takes in
    let all = all_so_far c.loop-line.lines c.next.new.self (g.S.Source.left c.args.source.now) (g.S.Source.left c.loop-line.source) (g.S.Source.left c.next.new.source) (g.K.Sink.written c.args.sink.now) (g.K.Sink.written c.loop-line.sink)
    c.loop-line.game c.loop-line.number c.loop-line.invariant.so_far takes in
    record {
      lines = all.lines;
      are_read = all.are_read;
      wrote = c.read_fault.ensures.so_far _ (g.K.Sink.written c.args.sink.now) c.loop-line.number all.on is;
    }

pub returns-in-Err-clause-so_far : goal.returns-in-Err-clause-so_far
returns-in-Err-clause-so_far g c = λ is. absurd (c.halted.ensures.no_read_fault is)

pub returns-in-Err-clause-read_fault : goal.returns-in-Err-clause-read_fault
returns-in-Err-clause-read_fault g c = λ is. absurd (c.halted.ensures.no_read_fault is)

pub returns-in-Err-clause-no_read_fault : goal.returns-in-Err-clause-no_read_fault
returns-in-Err-clause-no_read_fault g c = λ not_read not_write. c.in-Ok-Line.ensures.no_fault ∙ c.loop-line.invariant.reads

pub returns-in-Err-clause-write_fault : goal.returns-in-Err-clause-write_fault
returns-in-Err-clause-write_fault g c = ends_rose c.halted.result _ _ (counts_same c.halted.result (g.K.Sink.write_faults c.args.sink.now) (g.K.Sink.write_faults c.loop-line.sink) (g.K.Sink.write_faults c.halted.new.sink) c.loop-line.invariant.writes (counts_halted (Unit {0}) c.in-Err.halt c.halted.result (g.K.Sink.write_faults c.loop-line.sink) (g.K.Sink.write_faults c.line-played.new.sink) (g.K.Sink.write_faults c.halted.new.sink) c.in-Err.ensures.counts c.halted.ensures.counts c.halted.ensures.write c.halted.ensures.write_count))

pub returns-in-Err-clause-no_write_fault : goal.returns-in-Err-clause-no_write_fault
returns-in-Err-clause-no_write_fault g c = ends_same c.halted.result _ _ (counts_same c.halted.result (g.K.Sink.write_faults c.args.sink.now) (g.K.Sink.write_faults c.loop-line.sink) (g.K.Sink.write_faults c.halted.new.sink) c.loop-line.invariant.writes (counts_halted (Unit {0}) c.in-Err.halt c.halted.result (g.K.Sink.write_faults c.loop-line.sink) (g.K.Sink.write_faults c.line-played.new.sink) (g.K.Sink.write_faults c.halted.new.sink) c.in-Err.ensures.counts c.halted.ensures.counts c.halted.ensures.write c.halted.ensures.write_count))

pub returns-in-Err-clause-source_rest : goal.returns-in-Err-clause-source_rest
returns-in-Err-clause-source_rest g c = c.next.ensures.rest ∙ c.loop-line.invariant.read_rest

pub returns-in-Err-clause-sink_rest : goal.returns-in-Err-clause-sink_rest
returns-in-Err-clause-sink_rest g c = c.halted.ensures.rest ∙ c.line-played.ensures.rest ∙ c.loop-line.invariant.write_rest

pub returns-in-Ok-Last-clause-so_far : goal.returns-in-Ok-Last-clause-so_far
returns-in-Ok-Last-clause-so_far g c = λ is. absurd (c.last_line-end.ensures.no_read_fault is)

pub returns-in-Ok-Last-clause-read_fault : goal.returns-in-Ok-Last-clause-read_fault
returns-in-Ok-Last-clause-read_fault g c = λ is. absurd (c.last_line-end.ensures.no_read_fault is)

pub returns-in-Ok-Last-clause-no_read_fault : goal.returns-in-Ok-Last-clause-no_read_fault
returns-in-Ok-Last-clause-no_read_fault g c = λ not_read not_write. c.in-Ok-Last.ensures.no_fault ∙ c.loop-line.invariant.reads

pub returns-in-Ok-Last-clause-read : goal.returns-in-Ok-Last-clause-read
returns-in-Ok-Last-clause-read g c = λ is. rw c.in-Ok-Last.field-0-is at c.in-Ok-Last.ensures.end

pub returns-in-Ok-Last-clause-write_fault : goal.returns-in-Ok-Last-clause-write_fault
returns-in-Ok-Last-clause-write_fault g c = ends_rose c.last_line-end.result _ _ (counts_same c.last_line-end.result (g.K.Sink.write_faults c.args.sink.now) (g.K.Sink.write_faults c.loop-line.sink) (g.K.Sink.write_faults c.last_line-end.new.sink) c.loop-line.invariant.writes c.last_line-end.ensures.counts)

pub returns-in-Ok-Last-clause-no_write_fault : goal.returns-in-Ok-Last-clause-no_write_fault
returns-in-Ok-Last-clause-no_write_fault g c = ends_same c.last_line-end.result _ _ (counts_same c.last_line-end.result (g.K.Sink.write_faults c.args.sink.now) (g.K.Sink.write_faults c.loop-line.sink) (g.K.Sink.write_faults c.last_line-end.new.sink) c.loop-line.invariant.writes c.last_line-end.ensures.counts)

pub returns-in-Ok-Last-clause-source_rest : goal.returns-in-Ok-Last-clause-source_rest
returns-in-Ok-Last-clause-source_rest g c = c.next.ensures.rest ∙ c.loop-line.invariant.read_rest

pub returns-in-Ok-Last-clause-sink_rest : goal.returns-in-Ok-Last-clause-sink_rest
returns-in-Ok-Last-clause-sink_rest g c = c.last_line-end.ensures.rest ∙ c.loop-line.invariant.write_rest

pub returns-in-Ok-Refused-clause-so_far : goal.returns-in-Ok-Refused-clause-so_far
returns-in-Ok-Refused-clause-so_far g c = λ is. absurd (c.halted-in-Ok-Refused.ensures.no_read_fault is)

pub returns-in-Ok-Refused-clause-read_fault : goal.returns-in-Ok-Refused-clause-read_fault
returns-in-Ok-Refused-clause-read_fault g c = λ is. absurd (c.halted-in-Ok-Refused.ensures.no_read_fault is)

pub returns-in-Ok-Refused-clause-no_read_fault : goal.returns-in-Ok-Refused-clause-no_read_fault
returns-in-Ok-Refused-clause-no_read_fault g c = λ not_read not_write. c.in-Ok-Refused.ensures.no_fault ∙ c.loop-line.invariant.reads

pub returns-in-Ok-Refused-clause-write_fault : goal.returns-in-Ok-Refused-clause-write_fault
returns-in-Ok-Refused-clause-write_fault g c = ends_rose c.halted-in-Ok-Refused.result _ _ (counts_same c.halted-in-Ok-Refused.result (g.K.Sink.write_faults c.args.sink.now) (g.K.Sink.write_faults c.loop-line.sink) (g.K.Sink.write_faults c.halted-in-Ok-Refused.new.sink) c.loop-line.invariant.writes (c.halted-in-Ok-Refused.ensures.counts (λ is. refused_is_other _ c.in-Ok-Refused.why refl is)))

pub returns-in-Ok-Refused-clause-no_write_fault : goal.returns-in-Ok-Refused-clause-no_write_fault
returns-in-Ok-Refused-clause-no_write_fault g c = ends_same c.halted-in-Ok-Refused.result _ _ (counts_same c.halted-in-Ok-Refused.result (g.K.Sink.write_faults c.args.sink.now) (g.K.Sink.write_faults c.loop-line.sink) (g.K.Sink.write_faults c.halted-in-Ok-Refused.new.sink) c.loop-line.invariant.writes (c.halted-in-Ok-Refused.ensures.counts (λ is. refused_is_other _ c.in-Ok-Refused.why refl is)))

pub returns-in-Ok-Refused-clause-source_rest : goal.returns-in-Ok-Refused-clause-source_rest
returns-in-Ok-Refused-clause-source_rest g c = c.next.ensures.rest ∙ c.loop-line.invariant.read_rest

pub returns-in-Ok-Refused-clause-sink_rest : goal.returns-in-Ok-Refused-clause-sink_rest
returns-in-Ok-Refused-clause-sink_rest g c = c.halted-in-Ok-Refused.ensures.rest ∙ c.loop-line.invariant.write_rest

pub returns-in-Ok-End-clause-so_far : goal.returns-in-Ok-End-clause-so_far
returns-in-Ok-End-clause-so_far g c = λ is. absurd (c.finish.ensures.no_read_fault is)

pub returns-in-Ok-End-clause-read_fault : goal.returns-in-Ok-End-clause-read_fault
returns-in-Ok-End-clause-read_fault g c = λ is. absurd (c.finish.ensures.no_read_fault is)

pub returns-in-Ok-End-clause-no_read_fault : goal.returns-in-Ok-End-clause-no_read_fault
returns-in-Ok-End-clause-no_read_fault g c = λ not_read not_write. c.in-Ok-End.ensures.no_fault ∙ c.loop-line.invariant.reads

pub returns-in-Ok-End-clause-read : goal.returns-in-Ok-End-clause-read
returns-in-Ok-End-clause-read g c = λ is. rw c.in-Ok-End.field-0-is at c.in-Ok-End.ensures.end

pub returns-in-Ok-End-clause-write_fault : goal.returns-in-Ok-End-clause-write_fault
returns-in-Ok-End-clause-write_fault g c = ends_rose c.finish.result _ _ (counts_same c.finish.result (g.K.Sink.write_faults c.args.sink.now) (g.K.Sink.write_faults c.loop-line.sink) (g.K.Sink.write_faults c.finish.new.sink) c.loop-line.invariant.writes c.finish.ensures.counts)

pub returns-in-Ok-End-clause-no_write_fault : goal.returns-in-Ok-End-clause-no_write_fault
returns-in-Ok-End-clause-no_write_fault g c = ends_same c.finish.result _ _ (counts_same c.finish.result (g.K.Sink.write_faults c.args.sink.now) (g.K.Sink.write_faults c.loop-line.sink) (g.K.Sink.write_faults c.finish.new.sink) c.loop-line.invariant.writes c.finish.ensures.counts)

pub returns-in-Ok-End-clause-source_rest : goal.returns-in-Ok-End-clause-source_rest
returns-in-Ok-End-clause-source_rest g c = c.next.ensures.rest ∙ c.loop-line.invariant.read_rest

pub returns-in-Ok-End-clause-sink_rest : goal.returns-in-Ok-End-clause-sink_rest
returns-in-Ok-End-clause-sink_rest g c = c.finish.ensures.rest ∙ c.loop-line.invariant.write_rest

pub returns-in-Err-Read-clause-write_fault : goal.returns-in-Err-Read-clause-write_fault
returns-in-Err-Read-clause-write_fault g c = ends_rose c.read_fault.result _ _ (counts_same c.read_fault.result (g.K.Sink.write_faults c.args.sink.now) (g.K.Sink.write_faults c.loop-line.sink) (g.K.Sink.write_faults c.read_fault.new.sink) c.loop-line.invariant.writes c.read_fault.ensures.counts)

pub returns-in-Err-Read-clause-no_write_fault : goal.returns-in-Err-Read-clause-no_write_fault
returns-in-Err-Read-clause-no_write_fault g c = ends_same c.read_fault.result _ _ (counts_same c.read_fault.result (g.K.Sink.write_faults c.args.sink.now) (g.K.Sink.write_faults c.loop-line.sink) (g.K.Sink.write_faults c.read_fault.new.sink) c.loop-line.invariant.writes c.read_fault.ensures.counts)

pub returns-in-Err-Read-clause-source_rest : goal.returns-in-Err-Read-clause-source_rest
returns-in-Err-Read-clause-source_rest g c = c.next.ensures.rest ∙ c.loop-line.invariant.read_rest

pub returns-in-Err-Read-clause-sink_rest : goal.returns-in-Err-Read-clause-sink_rest
returns-in-Err-Read-clause-sink_rest g c = c.read_fault.ensures.rest ∙ c.loop-line.invariant.write_rest

pub returns-in-Err-Read-clause-read_fault : goal.returns-in-Err-Read-clause-read_fault
returns-in-Err-Read-clause-read_fault g c = λ is.
    subst (λ (n : ℕ). Rose n (g.S.Source.read_faults c.next.new.source)) c.loop-line.invariant.reads (c.in-Err-Read.ensures.fault c.in-Err-Read.field-0-is)

pub returns-in-Err-Memory-clause-so_far : goal.returns-in-Err-Memory-clause-so_far
returns-in-Err-Memory-clause-so_far g c = λ is. absurd (want_not_fault is)

pub returns-in-Err-Memory-clause-read : goal.returns-in-Err-Memory-clause-read
returns-in-Err-Memory-clause-read g c = λ is. absurd (want_not_done is)

pub returns-in-Err-Memory-clause-read_fault : goal.returns-in-Err-Memory-clause-read_fault
returns-in-Err-Memory-clause-read_fault g c = λ is. absurd (want_not_fault is)

pub returns-in-Err-Memory-clause-no_read_fault : goal.returns-in-Err-Memory-clause-no_read_fault
returns-in-Err-Memory-clause-no_read_fault g c = λ not_read not_write.
    let same : g.S.Source.read_faults c.next.new.source ≡ g.S.Source.read_faults c.loop-line.source = rw c.in-Err-Memory.field-0-is at c.in-Err-Memory.ensures.no_fault in
    same ∙ c.loop-line.invariant.reads

pub returns-in-Err-Memory-clause-write_fault : goal.returns-in-Err-Memory-clause-write_fault
returns-in-Err-Memory-clause-write_fault g c = λ is. absurd (want_not_write is)

pub returns-in-Err-Memory-clause-no_write_fault : goal.returns-in-Err-Memory-clause-no_write_fault
returns-in-Err-Memory-clause-no_write_fault g c = λ other. c.loop-line.invariant.writes

pub returns-in-Err-Memory-clause-source_rest : goal.returns-in-Err-Memory-clause-source_rest
returns-in-Err-Memory-clause-source_rest g c = c.next.ensures.rest ∙ c.loop-line.invariant.read_rest

pub returns-in-Err-Memory-clause-sink_rest : goal.returns-in-Err-Memory-clause-sink_rest
returns-in-Err-Memory-clause-sink_rest g c = c.loop-line.invariant.write_rest
