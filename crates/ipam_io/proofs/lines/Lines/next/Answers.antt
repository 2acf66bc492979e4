use Rattle.std.proofs.Common.{rules, ◌≡◌, ◌≢◌, ◌+◌, ◌<◌, [], ◌++◌, drop, ℕ, Option}
use Rattle.std.proofs.Common.{arith}
use Rattle.std.proofs.lemmas.Grind.{common_steps}
use Rattle.ipam_io.specs.Feeds.{IsLine, IsFirstFeed}
use Rattle.std.specs.Io.KnownBytes.{IsAtEnd}
use Rattle.std.specs.Prelude.{Ok, Err}
use Rattle.ipam_io.specs.declared.lines.Got.TheVariants.{Line, End, Cut}
use Rattle.ipam_io.specs.declared.lines.LinesFault.TheVariants.{Memory}
use Rattle.ipam_io.proofs.AnswerLemmas.{told, line_before, begins_with_line, nothing_left, ends_between, ends_inside, fault_answers, known_long_refused}
use Rattle.ipam_io.proofs.lines.Lines.next.Goals as goal

pub returns-in-Ok-clause-answer : goal.returns-in-Ok-clause-answer
returns-in-Ok-clause-answer g c =
    let bytes = c.fetch.new.self in
    let place = c.in-Ok-Some.place in
    let found : (place < g.row.LIMIT) × IsFirstFeed bytes place = rw c.in-Ok-Some.field-0-is at c.in-Ok-Some.ensures.found in
    let line = c.in-Ok.line.items in
    told _ _ bytes _ c.fetch.ensures.bytes (λ left same. (
      line_before g.row.LIMIT bytes line place found.0 found.1 c.in-Ok.ensures.line,
      drop (place + 1) bytes ++ left,
      begins_with_line bytes left line place found.1 c.in-Ok.ensures.line,
    ))

pub returns-in-Err-take_line-clause-answer : goal.returns-in-Err-take_line-clause-answer
returns-in-Err-take_line-clause-answer g c =
    told _ _ c.fetch.new.self _ c.fetch.ensures.bytes (λ left same. tt)

pub returns-in-Ok-None-clause-answer : goal.returns-in-Ok-None-clause-answer
returns-in-Ok-None-clause-answer g c =
    let end : IsLine g.row.LIMIT c.fetch.new.self × IsAtEnd (g.S.Source.left c.fetch.new.source) = rw c.in-Ok-None.field-0-is at c.in-Ok-None.ensures.end in
    let none : c.fetch.new.self ≡ [] = grind (arith, common_steps) in
    told _ _ c.fetch.new.self _ c.fetch.ensures.bytes (λ left same.
    ends_between c.fetch.new.self left none (nothing_left _ left end.1 same))

pub returns-in-Ok-None-2-clause-answer : goal.returns-in-Ok-None-2-clause-answer
returns-in-Ok-None-2-clause-answer g c =
    let end : IsLine g.row.LIMIT c.fetch.new.self × IsAtEnd (g.S.Source.left c.fetch.new.source) = rw c.in-Ok-None.field-0-is at c.in-Ok-None.ensures.end in
    let some : c.fetch.new.self ≢ [] = search rules in
    told _ _ c.fetch.new.self _ c.fetch.ensures.bytes (λ left same.
    ends_inside g.row.LIMIT c.fetch.new.self left end.0 some (nothing_left _ left end.1 same))

pub returns-in-Err-clause-answer : goal.returns-in-Err-clause-answer
returns-in-Err-clause-answer g c =
    told _ _ c.fetch.new.self _ c.fetch.ensures.bytes (λ left same.
    fault_answers g.row.LIMIT (Option ℕ) c.in-Err.fault c.fetch.new.self left c.in-Err.ensures.too_long)

pub returns-in-Ok-clause-long_is_refused : goal.returns-in-Ok-clause-long_is_refused
returns-in-Ok-clause-long_is_refused g c = known_long_refused g.row.LIMIT c.requires _ (Ok (Line c.in-Ok.line)) (returns-in-Ok-clause-answer g c)

pub returns-in-Err-take_line-clause-long_is_refused : goal.returns-in-Err-take_line-clause-long_is_refused
returns-in-Err-take_line-clause-long_is_refused g c = known_long_refused g.row.LIMIT c.requires _ (Err Memory) (returns-in-Err-take_line-clause-answer g c)

pub returns-in-Ok-None-clause-long_is_refused : goal.returns-in-Ok-None-clause-long_is_refused
returns-in-Ok-None-clause-long_is_refused g c = known_long_refused g.row.LIMIT c.requires _ (Ok End) (returns-in-Ok-None-clause-answer g c)

pub returns-in-Ok-None-2-clause-long_is_refused : goal.returns-in-Ok-None-2-clause-long_is_refused
returns-in-Ok-None-2-clause-long_is_refused g c = known_long_refused g.row.LIMIT c.requires _ (Ok Cut) (returns-in-Ok-None-2-clause-answer g c)

pub returns-in-Err-clause-long_is_refused : goal.returns-in-Err-clause-long_is_refused
returns-in-Err-clause-long_is_refused g c = known_long_refused g.row.LIMIT c.requires _ (Err c.in-Err.fault) (returns-in-Err-clause-answer g c)
