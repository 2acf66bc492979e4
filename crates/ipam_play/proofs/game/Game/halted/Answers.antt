use Rattle.std.proofs.Common.{refl, subst}
use Rattle.ipam_play.specs.declared.halt.Halt.{Halt}
use Rattle.ipam_play.specs.Halting.{IsHalted}
use Rattle.ipam_play.proofs.Closing.{memory_is_other, not_opened_is_other, refused_is_other, want_not_done, want_not_fault, write_not_done, write_not_fault, write_not_memory}
use Rattle.ipam_play.proofs.game.Game.halted.Goals as goal

pub returns-in-Refused : goal.returns-in-Refused
returns-in-Refused g c = record {
  written = λ script first h.
      let there = subst (λ (k : Halt). IsHalted k script first (g.K.Sink.written c.args.sink.now) c.args.self.now c.args.number) c.in-Refused.is h in
      c.refused.ensures.written script first there.0 there.1.0 there.1.1;
  no_read_fault = c.refused.ensures.no_read_fault;
  not_done = c.refused.ensures.not_done;
  no_memory = λ other. c.refused.ensures.no_memory;
  counts = λ other. c.refused.ensures.counts;
  write = λ is. absurd (refused_is_other _ _ c.in-Refused.is is);
  write_count = λ is. absurd (refused_is_other _ _ c.in-Refused.is is);
  rest = c.refused.ensures.rest;
}

pub returns-in-NotOpened : goal.returns-in-NotOpened
returns-in-NotOpened g c = record {
  written = λ script first h.
      let there = subst (λ (k : Halt). IsHalted k script first (g.K.Sink.written c.args.sink.now) c.args.self.now c.args.number) c.in-NotOpened.is h in
      c.not_opened.ensures.written script first there.0 there.1.0 there.1.1;
  no_read_fault = c.not_opened.ensures.no_read_fault;
  not_done = c.not_opened.ensures.not_done;
  no_memory = λ other. c.not_opened.ensures.no_memory;
  counts = λ other. c.not_opened.ensures.counts;
  write = λ is. absurd (not_opened_is_other _ _ _ c.in-NotOpened.is is);
  write_count = λ is. absurd (not_opened_is_other _ _ _ c.in-NotOpened.is is);
  rest = c.not_opened.ensures.rest;
}

pub returns-in-Write : goal.returns-in-Write
returns-in-Write g c = record {
  written = λ script first h. subst (λ (k : Halt). IsHalted k script first (g.K.Sink.written c.args.sink.now) c.args.self.now c.args.number) c.in-Write.is h;
  no_read_fault = write_not_fault;
  not_done = write_not_done;
  no_memory = λ other. write_not_memory;
  counts = λ other. absurd (other c.in-Write.is);
  write = λ is. refl;
  write_count = λ is. refl;
  rest = refl;
}

pub returns-in-Memory : goal.returns-in-Memory
returns-in-Memory g c = record {
  written = λ script first h. subst (λ (k : Halt). IsHalted k script first (g.K.Sink.written c.args.sink.now) c.args.self.now c.args.number) c.in-Memory.is h;
  no_read_fault = want_not_fault;
  not_done = want_not_done;
  no_memory = λ other. absurd (other c.in-Memory.is);
  counts = λ other. refl;
  write = λ is. absurd (memory_is_other _ c.in-Memory.is is);
  write_count = λ is. refl;
  rest = refl;
}
