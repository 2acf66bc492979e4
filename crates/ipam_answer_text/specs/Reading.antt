-- What a line of a script is read as.
use Rattle.std.specs.Prelude.{ℕ, List, codes, length, nat_lt, bytes_eq, Option, Some, None, option_map, option_and_then, if◌then◌else◌}
use Rattle.std.specs.Str.{is_utf8}
use Rattle.ipam_records.specs.declared.call.Row.{Row as TextRow}
use Rattle.ipam_json.specs.Members.{◌>>=◌, only_if}
use Rattle.ipam_request_text.specs.Live.{live_reading}
use Rattle.ipam_request_text.specs.Reading.{request_reading}
use Rattle.ipam_answer_text.specs.declared.line.Line.{Line}
use Rattle.ipam_answer_text.specs.declared.line.Line.TheVariants.{Row, Counter, Begin, Turn, Fail, Lose, Feed, Stop, Restart}
use Rattle.ipam_answer_text.specs.Words.{split_word, number_of, slot_named, turns_of}

-- the row, unless its key is no word
abbrev pub row_line_of : (revision : ℕ) (key body : List ℕ) → Option Line
row_line_of revision key body =
    only_if (nat_lt 0 (length key)) (Row (record { key = key; revision = revision; body = body }))

-- `REVISION KEY BODY`, the body being all that is left
unfoldable pub row_in : List ℕ → Option Line
row_in text = do
  first ← split_word text
  revision ← number_of first.0
  second ← split_word first.1
  row_line_of revision second.0 second.1

-- `SLOT REQUEST`, the request being all that is left
unfoldable pub begin_in : List ℕ → Option Line
begin_in text = do
  first ← split_word text
  slot ← slot_named first.0
  request ← request_reading first.1
  Some (Begin slot request)

-- one turn
abbrev pub one_turn : List ℕ → Option Line
one_turn text = option_map (λ slot. Turn slot 1) (slot_named text)

unfoldable pub turns_said : (slot turns : List ℕ) → Option Line
turns_said word turns = do
  slot ← slot_named word
  count ← turns_of turns
  Some (Turn slot count)

abbrev pub turn_parts : List ℕ → Option (List ℕ × List ℕ) → Option Line
turn_parts text None = one_turn text
turn_parts text (Some parts) = turns_said parts.0 parts.1

-- `SLOT`, or `SLOT N`
abbrev pub turn_in : List ℕ → Option Line
turn_in text = turn_parts text (split_word text)

-- `AT LIVE`, the list being all that is left
unfoldable pub timed_feed : (slot : ℕ) → List ℕ → Option Line
timed_feed slot text = do
  parts ← split_word text
  at ← number_of parts.0
  live ← live_reading parts.1
  Some (Feed slot at live)

abbrev pub feed_listed : (slot : ℕ) → List ℕ → Option (List (List ℕ)) → Option Line
feed_listed slot text (Some live) = Some (Feed slot 0 live)
feed_listed slot text None = timed_feed slot text

-- `SLOT LIVE` with the time 0, or `SLOT AT LIVE`
unfoldable pub feed_in : List ℕ → Option Line
feed_in text = do
  first ← split_word text
  slot ← slot_named first.0
  feed_listed slot first.1 (live_reading first.1)

abbrev pub named_call : (word rest : List ℕ) → Option Line
named_call word rest =
    if bytes_eq word (codes "fail") then option_map Fail (slot_named rest)
    else if bytes_eq word (codes "lose") then option_map Lose (slot_named rest)
    else if bytes_eq word (codes "stop") then option_map Stop (slot_named rest)
    else None

-- a line of more than one word, by its first
abbrev pub named_line : (word rest : List ℕ) → Option Line
named_line word rest =
    if bytes_eq word (codes "row") then row_in rest
    else if bytes_eq word (codes "counter") then option_map Counter (number_of rest)
    else if bytes_eq word (codes "begin") then begin_in rest
    else if bytes_eq word (codes "turn") then turn_in rest
    else if bytes_eq word (codes "feed") then feed_in rest
    else named_call word rest

abbrev pub lone_word : List ℕ → Option Line
lone_word word = if bytes_eq word (codes "restart") then Some Restart else None

abbrev pub line_parts : List ℕ → Option (List ℕ × List ℕ) → Option Line
line_parts text None = lone_word text
line_parts text (Some parts) = named_line parts.0 parts.1

-- what is read of a text
unfoldable pub text_reading : List ℕ → Option Line
text_reading text = line_parts text (split_word text)

-- what is read of the bytes before a line's end
unfoldable pub line_reading : List ℕ → Option Line
line_reading bytes = do
  text ← only_if (is_utf8 bytes) bytes
  text_reading text
