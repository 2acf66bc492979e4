use Rattle.std.proofs.Common.{◌≡◌, ◌∙◌, subst, sym, refl}
use Rattle.std.specs.Prelude.{Err}
use Rattle.ipam_play.specs.declared.game.Game.{Game}
use Rattle.ipam_play.specs.declared.fault.PlayFault.{PlayFault}
use Rattle.ipam_play.specs.declared.halt.Halt.{Halt}
use Rattle.ipam_play.specs.declared.halt.Halt.TheVariants as halt
use Rattle.ipam_play.specs.Halting.{CountsWrites, IsHalted, halt_of}
use Rattle.ipam_play.proofs.Games.{WritesJournal, base_halts, base_went, counts_halt, event_halts, event_went, late_halts, never_late, plays_known}
use Rattle.ipam_play.proofs.RunSteps.{wants_event}
use Rattle.ipam_play.proofs.game.Game.step.Goals as goal

pub returns-in-Ok-clause-event : goal.returns-in-Ok-clause-event
returns-in-Ok-clause-event g c = λ script first number event events rest is at.
    let mid : Game = record { player = c.step.new.self; output = c.args.self.now.output } in
    let p = plays_known c.args.self.now.player c.step.new.self c.args.line.now c.in-Ok.is (record { gathered = c.step.ensures.gathered; played = c.step.ensures.played; playing = c.step.ensures.playing }) in
    let j : WritesJournal c.write_journal.result mid c.write_journal.new.self (g.K.Sink.written c.args.sink.now) (g.K.Sink.written c.write_journal.new.sink) = record {
      wrote = c.write_journal.ensures.wrote;
      part = c.write_journal.ensures.part;
      no_memory = c.write_journal.ensures.no_memory;
      causes = c.write_journal.ensures.causes;
      forgotten = c.write_journal.ensures.forgotten;
      gathering = c.write_journal.ensures.gathering;
      playing = c.write_journal.ensures.playing;
    } in
    event_went _ c.write_journal.result first (g.K.Sink.written c.args.sink.now) (g.K.Sink.written c.write_journal.new.sink) c.args.self.now mid c.write_journal.new.self c.args.line.now refl p j
    script number event events rest is at

pub returns-in-Ok-clause-base : goal.returns-in-Ok-clause-base
returns-in-Ok-clause-base g c = λ script first number more none before.
    let mid : Game = record { player = c.step.new.self; output = c.args.self.now.output } in
    let p = plays_known c.args.self.now.player c.step.new.self c.args.line.now c.in-Ok.is (record { gathered = c.step.ensures.gathered; played = c.step.ensures.played; playing = c.step.ensures.playing }) in
    let j : WritesJournal c.write_journal.result mid c.write_journal.new.self (g.K.Sink.written c.args.sink.now) (g.K.Sink.written c.write_journal.new.sink) = record {
      wrote = c.write_journal.ensures.wrote;
      part = c.write_journal.ensures.part;
      no_memory = c.write_journal.ensures.no_memory;
      causes = c.write_journal.ensures.causes;
      forgotten = c.write_journal.ensures.forgotten;
      gathering = c.write_journal.ensures.gathering;
      playing = c.write_journal.ensures.playing;
    } in
    base_went _ c.write_journal.result first (g.K.Sink.written c.args.sink.now) (g.K.Sink.written c.write_journal.new.sink) c.args.self.now mid c.write_journal.new.self c.args.line.now refl p j
    script number more none before

pub returns-in-Ok-clause-late : goal.returns-in-Ok-clause-late
returns-in-Ok-clause-late g c = λ script first number rest none last stops going.
    let p = plays_known c.args.self.now.player c.step.new.self c.args.line.now c.in-Ok.is (record { gathered = c.step.ensures.gathered; played = c.step.ensures.played; playing = c.step.ensures.playing }) in
    absurd (never_late _ first (g.K.Sink.written c.args.sink.now) c.args.self.now c.step.new.self c.args.line.now p script number rest none last stops going)

pub returns-in-Err-clause-event : goal.returns-in-Err-clause-event
returns-in-Err-clause-event g c = λ script first number event events rest is at.
    let mid : Game = record { player = c.step.new.self; output = c.args.self.now.output } in
    let p = plays_known c.args.self.now.player c.step.new.self c.args.line.now c.in-Err.is (record { gathered = c.step.ensures.gathered; played = c.step.ensures.played; playing = c.step.ensures.playing }) in
    subst (λ (h : Halt). IsHalted h script first (g.K.Sink.written c.args.sink.now) mid number) (sym c.of.ensures)
    (event_halts c.in-Err.fault first (g.K.Sink.written c.args.sink.now) c.args.self.now mid c.args.line.now refl p script number event events rest is at)

pub returns-in-Err-clause-base : goal.returns-in-Err-clause-base
returns-in-Err-clause-base g c = λ script first number more none before.
    let mid : Game = record { player = c.step.new.self; output = c.args.self.now.output } in
    let p = plays_known c.args.self.now.player c.step.new.self c.args.line.now c.in-Err.is (record { gathered = c.step.ensures.gathered; played = c.step.ensures.played; playing = c.step.ensures.playing }) in
    subst (λ (h : Halt). IsHalted h script first (g.K.Sink.written c.args.sink.now) mid number) (sym c.of.ensures)
    (base_halts c.in-Err.fault first (g.K.Sink.written c.args.sink.now) c.args.self.now mid c.args.line.now refl p script number more none before)

pub returns-in-Err-clause-late : goal.returns-in-Err-clause-late
returns-in-Err-clause-late g c = λ script first number rest none last stops going.
    let mid : Game = record { player = c.step.new.self; output = c.args.self.now.output } in
    let p = plays_known c.args.self.now.player c.step.new.self c.args.line.now c.in-Err.is (record { gathered = c.step.ensures.gathered; played = c.step.ensures.played; playing = c.step.ensures.playing }) in
    subst (λ (h : Halt). IsHalted h script first (g.K.Sink.written c.args.sink.now) mid number) (sym c.of.ensures)
    (late_halts c.in-Err.fault first (g.K.Sink.written c.args.sink.now) c.args.self.now mid c.args.line.now refl p script number rest none last stops going)

pub returns-in-Err-clause-counts : goal.returns-in-Err-clause-counts
returns-in-Err-clause-counts g c =
    let n = g.K.Sink.write_faults c.args.sink.now in
    subst (λ (h : Halt). CountsWrites {T = Unit {0}} (Err h) n n) (sym c.of.ensures) (counts_halt (Unit {0}) c.in-Err.fault n)

pub returns-in-Ok-clause-wants : goal.returns-in-Ok-clause-wants
returns-in-Ok-clause-wants g c = λ event is memory.
    wants_event c.step.result c.args.self.now.player c.step.new.self c.args.line.now event is c.step.ensures.played (λ told is_told. absurd (cc (sym c.in-Ok.is ∙ is_told)))

pub returns-in-Err-clause-wants : goal.returns-in-Err-clause-wants
returns-in-Err-clause-wants g c = λ event is memory.
    let same : halt_of c.in-Err.fault ≡ halt.Memory = cc (c.of.ensures, memory) in
    wants_event c.step.result c.args.self.now.player c.step.new.self c.args.line.now event is c.step.ensures.played
    (λ told is_told. subst (λ (t : PlayFault). halt_of t ≡ halt.Memory) (cc (sym c.in-Err.is ∙ is_told)) same)
