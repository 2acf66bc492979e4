use Rattle.std.proofs.Common.{inl, inr}
use Rattle.ipam_commands.specs.Telling.{Writes}
use Rattle.ipam_commands.proofs.Steps.{may-tell, step-ends, step-ready, step-store, stop-ends, told-again}
use Rattle.ipam_commands.proofs.step.apply_one.Goals as goal

pub run_alone-requires-clause-kept : goal.run_alone-requires-clause-kept
run_alone-requires-clause-kept g c = (_, (_, c.requires.ready.kept_for))

pub tell_answer-requires : goal.tell_answer-requires
tell_answer-requires g c =
    may-tell g.D.Keeper.rows g.D.Keeper.faults c.args.resource c.requires.fit c.args.kept.now c.run_alone.new.kept c.requires.ready
    c.in-Ok.answer c.in-Ok.ensures.can_answer c.in-Ok.ensures.answered

pub returns-in-Err-clause-ended : goal.returns-in-Err-clause-ended
returns-in-Err-clause-ended g c =
    stop-ends g.D.Keeper.rows g.D.Keeper.faults c.args.resource c.requires.fit c.args.kept.now c.run_alone.new.kept c.requires.ready
    _ _ c.in-Err.ensures.stopped

pub returns-in-Ok-clause-ended : goal.returns-in-Ok-clause-ended
returns-in-Ok-clause-ended g c =
    let w = g.K.Sink.written c.args.sink.now in
    let w' = g.K.Sink.written c.tell_answer.new.sink in
    let f = g.K.Sink.write_faults c.args.sink.now in
    let f' = g.K.Sink.write_faults c.tell_answer.new.sink in
    step-ends g.D.Keeper.rows g.D.Keeper.faults c.args.resource c.requires.fit c.args.kept.now c.run_alone.new.kept c.requires.ready
    w w' f f' c.in-Ok.answer c.tell_answer.result
    (told-again c.args.resource c.into_change-change.result c.into_change-change.ensures c.in-Ok.answer
    (λ text own end. Writes w w' f f' text own end) c.tell_answer.result c.tell_answer.ensures.told)
    c.in-Ok.ensures.answered

pub returns-in-Ok-clause-store : goal.returns-in-Ok-clause-store
returns-in-Ok-clause-store g c =
    let w = g.K.Sink.written c.args.sink.now in
    let w' = g.K.Sink.written c.tell_answer.new.sink in
    let f = g.K.Sink.write_faults c.args.sink.now in
    let f' = g.K.Sink.write_faults c.tell_answer.new.sink in
    step-store g.D.Keeper.rows g.D.Keeper.faults c.args.resource c.requires.fit c.args.kept.now c.run_alone.new.kept c.requires.ready
    w w' f f' c.in-Ok.answer c.tell_answer.result
    (told-again c.args.resource c.into_change-change.result c.into_change-change.ensures c.in-Ok.answer
    (λ text own end. Writes w w' f f' text own end) c.tell_answer.result c.tell_answer.ensures.told)
    c.in-Ok.ensures.answered

pub returns-in-Ok-clause-ready : goal.returns-in-Ok-clause-ready
returns-in-Ok-clause-ready g c =
    let w = g.K.Sink.written c.args.sink.now in
    let w' = g.K.Sink.written c.tell_answer.new.sink in
    let f = g.K.Sink.write_faults c.args.sink.now in
    let f' = g.K.Sink.write_faults c.tell_answer.new.sink in
    step-ready g.D.Keeper.rows g.D.Keeper.faults c.args.resource c.requires.fit c.args.kept.now c.run_alone.new.kept c.requires.ready
    w w' f f' c.in-Ok.answer c.tell_answer.result
    (told-again c.args.resource c.into_change-change.result c.into_change-change.ensures c.in-Ok.answer
    (λ text own end. Writes w w' f f' text own end) c.tell_answer.result c.tell_answer.ensures.told)
    c.in-Ok.ensures.answered c.in-Ok.ensures.kept c.in-Ok.ensures.idle

pub returns-in-Ok-clause-want_of_memory_has_its_cause : goal.returns-in-Ok-clause-want_of_memory_has_its_cause
returns-in-Ok-clause-want_of_memory_has_its_cause g c = λ is. inr (c.tell_answer.ensures.want_of_memory_has_its_cause is)

pub returns-in-Err-clause-want_of_memory_has_its_cause : goal.returns-in-Err-clause-want_of_memory_has_its_cause
returns-in-Err-clause-want_of_memory_has_its_cause g c = λ is. inl c.in-Err.ensures.want_of_memory_has_its_cause
