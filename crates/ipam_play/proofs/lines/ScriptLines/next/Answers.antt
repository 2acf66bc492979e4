use Rattle.std.proofs.Common.{◌≡◌, ◌≢◌, ◌+◌, [], ◌++◌, ◌∷◌, length, List, ℕ, ap, subst}
use Rattle.std.specs.Io.KnownBytes.{prepend_known, IsAtEnd}
use Rattle.ipam_io.specs.Feeds.{IsLine, IsTooLong}
use Rattle.ipam_answer_text.specs.Lines.{told_line}
use Rattle.std.specs.Prelude.{OnErr, option_map}
use Rattle.ipam_answer_text.specs.Lines.{Whole}
use Rattle.ipam_play.specs.declared.lines.ScriptFault.TheVariants.{Read}
use Rattle.ipam_play.specs.Readings.{line_reading_of, readings_from, IsTold, OnLine}
use Rattle.ipam_play.proofs.AnswerFacts.{last_fault, last_line, on_end, onward, same_next, told_end, told_fault, unless_read, wanting_end, wanting_fault, wanting_line, wanting_sound}
use Rattle.ipam_play.proofs.ReadingLemmas.{line_comes, last_comes, end_comes, long_comes, takes_last, takes_line, wanting_comes, wanting_takes}
use Rattle.ipam_play.proofs.lines.ScriptLines.next.Goals as goal

pub returns-in-Ok-Line-clause-next : goal.returns-in-Ok-Line-clause-next
returns-in-Ok-Line-clause-next g c =
    let asks = subst (λ (b : List ℕ). IsTold c.line.result (line_reading_of (told_line c.args.self.now.before.bytes b))) c.deref.ensures.value c.line.ensures.told in
    let at : OnLine c.line.result (c.line.new.self.before.bytes ≡ c.args.self.now.before.bytes + length c.in-Ok-Line.bytes.items + 1) =
    rw c.deref.ensures.value at c.line.ensures.before in
    let same : prepend_known c.args.self.now.lines (g.S.Source.left c.args.source.now)
    ≡ prepend_known ((c.in-Ok-Line.bytes.items ++ 10 ∷ []) ++ c.next.new.self) (g.S.Source.left c.next.new.source) = rw c.in-Ok-Line.field-0-is at c.in-Ok-Line.ensures.bytes in
    let line : IsLine 1048577 c.in-Ok-Line.bytes.items = rw c.in-Ok-Line.field-0-is at c.in-Ok-Line.ensures.line in
    rw c.line.ensures.lines (line_comes c.line.result c.args.self.now.before.bytes c.line.new.self.before.bytes _ (g.S.Source.left c.next.new.source) c.in-Ok-Line.bytes.items c.next.new.self same line.0 asks at)

pub returns-in-Ok-Cut-clause-next : goal.returns-in-Ok-Cut-clause-next
returns-in-Ok-Cut-clause-next g c =
    let same : prepend_known c.args.self.now.lines (g.S.Source.left c.args.source.now)
    ≡ prepend_known c.next.new.self (g.S.Source.left c.next.new.source) = rw c.in-Ok-Cut.field-0-is at c.in-Ok-Cut.ensures.bytes in
    let cut : IsLine 1048577 c.next.new.self × (c.next.new.self ≢ []) × IsAtEnd (g.S.Source.left c.next.new.source) = rw c.in-Ok-Cut.field-0-is at c.in-Ok-Cut.ensures.cut in
    last_comes c.last.result c.args.self.now.before.bytes _ (g.S.Source.left c.next.new.source) c.next.new.self same cut.2 cut.0.0 cut.1 c.last.ensures.told

pub returns-in-Ok-End-clause-next : goal.returns-in-Ok-End-clause-next
returns-in-Ok-End-clause-next g c =
    let same : prepend_known c.args.self.now.lines (g.S.Source.left c.args.source.now)
    ≡ prepend_known c.next.new.self (g.S.Source.left c.next.new.source) = rw c.in-Ok-End.field-0-is at c.in-Ok-End.ensures.bytes in
    let end : (c.next.new.self ≡ []) × IsAtEnd (g.S.Source.left c.next.new.source) = rw c.in-Ok-End.field-0-is at c.in-Ok-End.ensures.end in
    end_comes c.args.self.now.before.bytes _ (g.S.Source.left c.next.new.source) c.next.new.self same end.0 end.1

pub returns-in-Err-TooLong-clause-next : goal.returns-in-Err-TooLong-clause-next
returns-in-Err-TooLong-clause-next g c =
    let same : prepend_known c.args.self.now.lines (g.S.Source.left c.args.source.now)
    ≡ prepend_known c.next.new.self (g.S.Source.left c.next.new.source) = c.in-Err-TooLong.ensures.bytes in
    let long : IsTooLong 1048577 c.next.new.self = rw c.in-Err-TooLong.field-0-is at c.in-Err-TooLong.ensures.too_long in
    long_comes c.args.self.now.before.bytes _ (g.S.Source.left c.next.new.source) c.next.new.self same long

pub returns-in-Ok-Line-clause-takes : goal.returns-in-Ok-Line-clause-takes
returns-in-Ok-Line-clause-takes g c =
    let asks = subst (λ (b : List ℕ). IsTold c.line.result (line_reading_of (told_line c.args.self.now.before.bytes b))) c.deref.ensures.value c.line.ensures.told in
    let at : OnLine c.line.result (c.line.new.self.before.bytes ≡ c.args.self.now.before.bytes + length c.in-Ok-Line.bytes.items + 1) =
    rw c.deref.ensures.value at c.line.ensures.before in
    let short = subst (λ (b : List ℕ). OnErr c.line.result (told_line c.args.self.now.before.bytes b ≡ Whole b)) c.deref.ensures.value c.line.ensures.not_long in
    let same : prepend_known c.args.self.now.lines (g.S.Source.left c.args.source.now)
    ≡ prepend_known ((c.in-Ok-Line.bytes.items ++ 10 ∷ []) ++ c.next.new.self) (g.S.Source.left c.next.new.source) = rw c.in-Ok-Line.field-0-is at c.in-Ok-Line.ensures.bytes in
    let line : IsLine 1048577 c.in-Ok-Line.bytes.items = rw c.in-Ok-Line.field-0-is at c.in-Ok-Line.ensures.line in
    takes_line c.line.result c.args.self.now c.line.new.self (g.S.Source.left c.args.source.now) (g.S.Source.left c.next.new.source) c.in-Ok-Line.bytes.items c.next.new.self line.0 asks at short c.line.ensures.lines same

pub returns-in-Ok-Cut-clause-takes : goal.returns-in-Ok-Cut-clause-takes
returns-in-Ok-Cut-clause-takes g c =
    let same : prepend_known c.args.self.now.lines (g.S.Source.left c.args.source.now)
    ≡ prepend_known c.next.new.self (g.S.Source.left c.next.new.source) = rw c.in-Ok-Cut.field-0-is at c.in-Ok-Cut.ensures.bytes in
    let cut : IsLine 1048577 c.next.new.self × (c.next.new.self ≢ []) × IsAtEnd (g.S.Source.left c.next.new.source) = rw c.in-Ok-Cut.field-0-is at c.in-Ok-Cut.ensures.cut in
    takes_last c.last.result c.args.self.now _ (g.S.Source.left c.args.source.now) (g.S.Source.left c.next.new.source) c.next.new.self cut.0.0 c.last.ensures.told c.last.ensures.not_long same

pub returns-in-Err-Read-clause-takes : goal.returns-in-Err-Read-clause-takes
returns-in-Err-Read-clause-takes g c =
    let none : IsLine 1048577 c.next.new.self = rw c.in-Err-Read.field-0-is at c.in-Err-Read.ensures.read_fault in
    record { no_feed = none.0; taken = c.in-Err-Read.ensures.bytes }

pub returns-in-Err-Memory-clause-next : goal.returns-in-Err-Memory-clause-next
returns-in-Err-Memory-clause-next g c =
    wanting_comes c.wanting.result c.args.self.now.before.bytes _ (g.S.Source.left c.next.new.source) c.next.new.self c.in-Err-Memory.ensures.bytes c.wanting.ensures.cut c.wanting.ensures.refused

pub returns-in-Err-Memory-clause-takes : goal.returns-in-Err-Memory-clause-takes
returns-in-Err-Memory-clause-takes g c =
    wanting_takes c.wanting.result c.args.self.now _ (g.S.Source.left c.args.source.now) (g.S.Source.left c.next.new.source) c.next.new.self c.in-Err-Memory.ensures.bytes c.wanting.ensures.cut c.wanting.ensures.refused c.wanting.ensures.fault

pub returns-in-Ok-Line-clause-sound : goal.returns-in-Ok-Line-clause-sound
returns-in-Ok-Line-clause-sound g c = c.line.ensures.sound

pub returns-in-Ok-Line-clause-end : goal.returns-in-Ok-Line-clause-end
returns-in-Ok-Line-clause-end g c = told_end _ c.line.result _ c.line.ensures.told

pub returns-in-Ok-Line-clause-onward : goal.returns-in-Ok-Line-clause-onward
returns-in-Ok-Line-clause-onward g c = onward c.line.result _ _ _ c.line.ensures.before

pub returns-in-Ok-Line-clause-within : goal.returns-in-Ok-Line-clause-within
returns-in-Ok-Line-clause-within g c = c.line.ensures.within

pub returns-in-Ok-Line-clause-fault : goal.returns-in-Ok-Line-clause-fault
returns-in-Ok-Line-clause-fault g c = told_fault _ c.line.result _ c.line.ensures.told

pub returns-in-Ok-Line-clause-no_fault : goal.returns-in-Ok-Line-clause-no_fault
returns-in-Ok-Line-clause-no_fault g c = unless_read c.line.result c.in-Ok-Line.ensures.no_fault

pub returns-in-Ok-Line-clause-never_falls : goal.returns-in-Ok-Line-clause-never_falls
returns-in-Ok-Line-clause-never_falls g c = c.next.ensures.never_falls

pub returns-in-Ok-Line-clause-rest : goal.returns-in-Ok-Line-clause-rest
returns-in-Ok-Line-clause-rest g c = c.next.ensures.rest

pub returns-in-Ok-Cut-clause-sound : goal.returns-in-Ok-Cut-clause-sound
returns-in-Ok-Cut-clause-sound g c = c.last.ensures.sound

pub returns-in-Ok-Cut-clause-end : goal.returns-in-Ok-Cut-clause-end
returns-in-Ok-Cut-clause-end g c =
    let cut : IsLine 1048577 c.next.new.self × (c.next.new.self ≢ []) × IsAtEnd (g.S.Source.left c.next.new.source) = rw c.in-Ok-Cut.field-0-is at c.in-Ok-Cut.ensures.cut in
    on_end c.last.result cut.2

pub returns-in-Ok-Cut-clause-onward : goal.returns-in-Ok-Cut-clause-onward
returns-in-Ok-Cut-clause-onward g c = last_line _ c.last.result _ c.last.ensures.told

pub returns-in-Ok-Cut-clause-within : goal.returns-in-Ok-Cut-clause-within
returns-in-Ok-Cut-clause-within g c = last_line _ c.last.result _ c.last.ensures.told

pub returns-in-Ok-Cut-clause-fault : goal.returns-in-Ok-Cut-clause-fault
returns-in-Ok-Cut-clause-fault g c = last_fault _ c.last.result _ c.last.ensures.told

pub returns-in-Ok-Cut-clause-no_fault : goal.returns-in-Ok-Cut-clause-no_fault
returns-in-Ok-Cut-clause-no_fault g c = unless_read c.last.result c.in-Ok-Cut.ensures.no_fault

pub returns-in-Ok-Cut-clause-never_falls : goal.returns-in-Ok-Cut-clause-never_falls
returns-in-Ok-Cut-clause-never_falls g c = c.next.ensures.never_falls

pub returns-in-Ok-Cut-clause-rest : goal.returns-in-Ok-Cut-clause-rest
returns-in-Ok-Cut-clause-rest g c = c.next.ensures.rest

pub returns-in-Ok-End-clause-end : goal.returns-in-Ok-End-clause-end
returns-in-Ok-End-clause-end g c =
    let end : (c.next.new.self ≡ []) × IsAtEnd (g.S.Source.left c.next.new.source) = rw c.in-Ok-End.field-0-is at c.in-Ok-End.ensures.end in
    end.1

pub returns-in-Ok-End-clause-no_fault : goal.returns-in-Ok-End-clause-no_fault
returns-in-Ok-End-clause-no_fault g c = c.in-Ok-End.ensures.no_fault

pub returns-in-Ok-End-clause-never_falls : goal.returns-in-Ok-End-clause-never_falls
returns-in-Ok-End-clause-never_falls g c = c.next.ensures.never_falls

pub returns-in-Ok-End-clause-rest : goal.returns-in-Ok-End-clause-rest
returns-in-Ok-End-clause-rest g c = c.next.ensures.rest

pub returns-in-Err-TooLong-clause-no_fault : goal.returns-in-Err-TooLong-clause-no_fault
returns-in-Err-TooLong-clause-no_fault g c = rw c.in-Err-TooLong.field-0-is at c.in-Err-TooLong.ensures.no_fault

pub returns-in-Err-TooLong-clause-never_falls : goal.returns-in-Err-TooLong-clause-never_falls
returns-in-Err-TooLong-clause-never_falls g c = c.next.ensures.never_falls

pub returns-in-Err-TooLong-clause-rest : goal.returns-in-Err-TooLong-clause-rest
returns-in-Err-TooLong-clause-rest g c = c.next.ensures.rest

pub returns-in-Err-Read-clause-next : goal.returns-in-Err-Read-clause-next
returns-in-Err-Read-clause-next g c =
    same_next Read _ _ (ap (option_map (readings_from c.args.self.now.before.bytes)) c.in-Err-Read.ensures.bytes)

pub returns-in-Err-Read-clause-fault : goal.returns-in-Err-Read-clause-fault
returns-in-Err-Read-clause-fault g c = λ is. rw c.in-Err-Read.field-0-is at c.in-Err-Read.ensures.fault

pub returns-in-Err-Read-clause-never_falls : goal.returns-in-Err-Read-clause-never_falls
returns-in-Err-Read-clause-never_falls g c = c.next.ensures.never_falls

pub returns-in-Err-Read-clause-rest : goal.returns-in-Err-Read-clause-rest
returns-in-Err-Read-clause-rest g c = c.next.ensures.rest

pub returns-in-Err-Memory-clause-sound : goal.returns-in-Err-Memory-clause-sound
returns-in-Err-Memory-clause-sound g c = wanting_sound c.wanting.result _ c.wanting.ensures.refused

pub returns-in-Err-Memory-clause-end : goal.returns-in-Err-Memory-clause-end
returns-in-Err-Memory-clause-end g c = wanting_end _ c.wanting.result c.wanting.ensures.refused

pub returns-in-Err-Memory-clause-onward : goal.returns-in-Err-Memory-clause-onward
returns-in-Err-Memory-clause-onward g c = wanting_line _ c.wanting.result c.wanting.ensures.refused

pub returns-in-Err-Memory-clause-within : goal.returns-in-Err-Memory-clause-within
returns-in-Err-Memory-clause-within g c = wanting_line _ c.wanting.result c.wanting.ensures.refused

pub returns-in-Err-Memory-clause-fault : goal.returns-in-Err-Memory-clause-fault
returns-in-Err-Memory-clause-fault g c = wanting_fault _ c.wanting.result c.wanting.ensures.fault

pub returns-in-Err-Memory-clause-no_fault : goal.returns-in-Err-Memory-clause-no_fault
returns-in-Err-Memory-clause-no_fault g c = unless_read c.wanting.result (rw c.in-Err-Memory.field-0-is at c.in-Err-Memory.ensures.no_fault)

pub returns-in-Err-Memory-clause-never_falls : goal.returns-in-Err-Memory-clause-never_falls
returns-in-Err-Memory-clause-never_falls g c = c.next.ensures.never_falls

pub returns-in-Err-Memory-clause-rest : goal.returns-in-Err-Memory-clause-rest
returns-in-Err-Memory-clause-rest g c = c.next.ensures.rest
