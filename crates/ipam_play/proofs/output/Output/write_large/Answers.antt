use Rattle.std.proofs.Common.{◌∙◌, ◌<◌, ap, subst, sym, List, ℕ, Option, [], length, arith}
use Rattle.std.specs.Io.KnownBytes.{append_known}
use Rattle.ipam_play.specs.Writing.{Wrote, held_in}
use Rattle.ipam_play.proofs.Endings.{wrote_all}
use Rattle.ipam_play.proofs.output.Output.write_large.Goals as goal

pub returns-clause-wrote : goal.returns-clause-wrote
returns-clause-wrote g c = λ first past w.
    subst (λ (l : List ℕ). Wrote first (g.K.Sink.written c.write.new.self) l past) (sym c.clear.ensures.bytes)
    (subst (λ (k : Option (List ℕ)). Wrote first k [] past) (sym (c.in_ok-write.ensures.bytes ∙ ap (append_known (g.K.Sink.written c.args.sink.now)) c.as_bytes.ensures.value))
    (wrote_all first (g.K.Sink.written c.args.sink.now) (held_in c.args.self.now) past w))

pub returns-clause-few : goal.returns-clause-few
returns-clause-few g c = subst (λ (l : List ℕ). length l < 65536) (sym c.clear.ensures.bytes) (omega arith)
