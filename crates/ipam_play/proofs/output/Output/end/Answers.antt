use Rattle.std.proofs.Common.{◌≡◌, ◌∙◌, ap, subst, ℕ, List}
use Rattle.std.specs.Prelude.{OnErr, OnOk}
use Rattle.std.specs.Io.KnownBytes.{append_known}
use Rattle.std.proofs.lemmas.Result.{err_from_is_err_and}
use Rattle.ipam_io.specs.Counts.{Rose}
use Rattle.ipam_io.specs.Streams.{AppendsPrefix}
use Rattle.ipam_play.specs.Writing.{held_in, joined}
use Rattle.ipam_play.proofs.Endings.{front-part, next_part_or, next_whole_or, on_err}
use Rattle.ipam_play.proofs.output.Output.end.Goals as goal

pub returns-in_err-write-clause-wrote : goal.returns-in_err-write-clause-wrote
returns-in_err-write-clause-wrote g c = let p = err_from_is_err_and c.from_residual.result c.from_residual.ensures.1 in rw p.1 tt

pub returns-in_err-write-clause-part : goal.returns-in_err-write-clause-part
returns-in_err-write-clause-part g c =
    let now = g.K.Sink.written c.args.sink.now in
    let after = g.K.Sink.written c.write.new.self in
    on_err c.from_residual.result
    (front-part now after (held_in c.args.self.now) (joined c.args.last.now) (subst (λ (l : List ℕ). AppendsPrefix now after l) c.as_bytes.ensures.value c.in_err-write.ensures.part))

pub returns-in_err-write-clause-fault : goal.returns-in_err-write-clause-fault
returns-in_err-write-clause-fault g c = on_err c.from_residual.result c.in_err-write.ensures.fault

pub returns-in_err-write-clause-no_fault : goal.returns-in_err-write-clause-no_fault
returns-in_err-write-clause-no_fault g c = let p = err_from_is_err_and c.from_residual.result c.from_residual.ensures.1 in rw p.1 tt

pub returns-in_err-write-clause-rest : goal.returns-in_err-write-clause-rest
returns-in_err-write-clause-rest g c = c.write.ensures.rest

pub returns-clause-wrote : goal.returns-clause-wrote
returns-clause-wrote g c =
    next_whole_or c.write_pieces.result (g.K.Sink.written c.args.sink.now) (g.K.Sink.written c.write.new.self) (g.K.Sink.written c.write_pieces.new.sink) (held_in c.args.self.now) (joined c.args.last.now)
    (c.in_ok-write.ensures.bytes ∙ ap (append_known (g.K.Sink.written c.args.sink.now)) c.as_bytes.ensures.value)
    c.write_pieces.ensures.wrote

pub returns-clause-part : goal.returns-clause-part
returns-clause-part g c =
    next_part_or c.write_pieces.result (g.K.Sink.written c.args.sink.now) (g.K.Sink.written c.write.new.self) (g.K.Sink.written c.write_pieces.new.sink) (held_in c.args.self.now) (joined c.args.last.now)
    (c.in_ok-write.ensures.bytes ∙ ap (append_known (g.K.Sink.written c.args.sink.now)) c.as_bytes.ensures.value)
    c.write_pieces.ensures.part

pub returns-clause-fault : goal.returns-clause-fault
returns-clause-fault g c =
    subst (λ (n : ℕ). OnErr c.write_pieces.result (Rose n (g.K.Sink.write_faults c.write_pieces.new.sink))) c.in_ok-write.ensures.no_fault c.write_pieces.ensures.fault

pub returns-clause-no_fault : goal.returns-clause-no_fault
returns-clause-no_fault g c =
    subst (λ (n : ℕ). OnOk c.write_pieces.result (g.K.Sink.write_faults c.write_pieces.new.sink ≡ n)) c.in_ok-write.ensures.no_fault c.write_pieces.ensures.no_fault

pub returns-clause-rest : goal.returns-clause-rest
returns-clause-rest g c = c.write_pieces.ensures.rest ∙ c.write.ensures.rest
