use Rattle.std.proofs.Common.{◌≡◌, ◌∙◌, ap, inl, inr, refl, subst, sym, List, ℕ, false, ◌++◌}
use Rattle.std.specs.Prelude.{Result, Ok, Err, OnOk}
use Rattle.std.specs.Result.{is_err}
use Rattle.ipam_io.specs.Streams.{AppendsPrefix}
use Rattle.ipam_model.specs.declared.entry.Entry.{Entry}
use Rattle.ipam_play.specs.declared.halt.Halt.{Halt}
use Rattle.ipam_play.specs.declared.halt.Halt.TheVariants as halt
use Rattle.ipam_play.specs.Output.{journal_text}
use Rattle.ipam_play.specs.Player.{journal_of}
use Rattle.ipam_play.specs.Writing.{Wrote, held_in}
use Rattle.ipam_play.specs.Halting.{held_by}
use Rattle.ipam_play.proofs.Endings.{wrote_more}
use Rattle.ipam_play.proofs.game.Game.write_journal.Goals as goal

took : {T E : Type 0} {P : Type 0} (r : Result T E) → false ≡ is_err r → OnOk r P → P
took (Ok done) e h = h
took (Err why) e h = cc e

memory_not_write : {T : Type 0} (result : Result T Halt) → result ≡ Err halt.Memory → result ≡ Err halt.Write → ⊥
memory_not_write result memory write = cc (sym memory ∙ write)

done_not_err : {T E : Type 0} {done : T} (why : E) → Ok done ≡ Err why → ⊥
done_not_err why is = cc is

pub returns-then-is_err : goal.returns-then-is_err
returns-then-is_err g c = record {
  wrote = λ first past w. tt;
  part = λ is. absurd (memory_not_write _ refl is);
  no_memory = λ is. refl;
  causes = inr refl;
  standing = λ stands. stands;
  forgotten = tt;
  gathering = λ base h. tt;
  playing = λ base store past h. tt;
  few = tt;
  counts = refl;
  rest = refl;
}

pub returns-in-Ok : goal.returns-in-Ok
returns-in-Ok g c = record {
  wrote = λ first past w.
      let now = g.K.Sink.written c.args.sink.now in
      let made = journal_of c.args.self.now.player in
      let held : held_in c.take.new.self ≡ held_by c.args.self.now ++ journal_text made =
      took c.take.result c.if-is_err.ensures.value c.take.ensures ∙ ap (λ (es : List Entry). held_by c.args.self.now ++ journal_text es) c.journal.ensures in
      c.in-Ok.ensures.wrote first (past ++ made)
      (subst (λ (l : List ℕ). Wrote first now l (past ++ made)) (sym held) (wrote_more first now (held_by c.args.self.now) past made w));
  part = λ is. absurd (done_not_err _ is);
  no_memory = λ is. absurd (done_not_err _ is);
  causes = tt;
  standing = c.forget.ensures.standing;
  forgotten = c.forget.ensures.journal;
  gathering = c.forget.ensures.gathering;
  playing = c.forget.ensures.playing;
  few = c.in-Ok.ensures.few;
  counts = c.in-Ok.ensures.no_fault;
  rest = c.write_large.ensures.rest;
}

pub returns-in-Err : goal.returns-in-Err
returns-in-Err g c = record {
  wrote = λ first past w. tt;
  part = λ is.
      let made = journal_of c.args.self.now.player in
      let held : held_in c.take.new.self ≡ held_by c.args.self.now ++ journal_text made =
      took c.take.result c.if-is_err.ensures.value c.take.ensures ∙ ap (λ (es : List Entry). held_by c.args.self.now ++ journal_text es) c.journal.ensures in
      subst (λ (l : List ℕ). AppendsPrefix (g.K.Sink.written c.args.sink.now) (g.K.Sink.written c.write_large.new.sink) l) held c.in-Err.ensures.part;
  no_memory = λ is. absurd (memory_not_write _ is refl);
  causes = inl refl;
  standing = c.forget.ensures.standing;
  forgotten = tt;
  gathering = λ base h. tt;
  playing = λ base store past h. tt;
  few = tt;
  counts = c.in-Err.ensures.fault;
  rest = c.write_large.ensures.rest;
}
