-- What the bytes of a script are read as, line by line.
use Rattle.std.specs.Prelude.{◌≡◌, ℕ, ◌+◌, ⊤, ◌⊎◌, List, [], ◌∷◌, ◌++◌, length, map, Option, Some, None, option_map, Result, Ok, Err}
use Rattle.std.specs.Io.KnownBytes.{prepend_known}
use Rattle.std.specs.List.{slice_split}
use Rattle.ipam_io.specs.Feeds.{HasNoFeed}
use Rattle.ipam_answer_text.specs.declared.line.Line.{Line}
use Rattle.ipam_answer_text.specs.Lines.{ScriptLine, Whole, Long as LongLine, is_line_end, lines_of, placed, told_line, without_empty_end}
use Rattle.ipam_answer_text.specs.Reading.{line_reading}
use Rattle.ipam_play.specs.declared.refusal.LineRefusal.{LineRefusal}
use Rattle.ipam_play.specs.declared.refusal.LineRefusal.TheVariants.{Long, Unreadable}
use Rattle.ipam_play.specs.declared.lines.Next.{Next}
use Rattle.ipam_play.specs.declared.lines.Next.TheVariants as next
use Rattle.ipam_play.specs.declared.lines.ScriptFault.{ScriptFault}
use Rattle.ipam_play.specs.declared.lines.ScriptFault.TheVariants.{Read, Memory}
use Rattle.ipam_play.specs.declared.lines.ScriptLines.{ScriptLines}

-- a line, or why it is none
abbrev pub LineReading : Type 0
LineReading = Result Line LineRefusal

abbrev pub read_or_not : Option Line → LineReading
read_or_not None = Err Unreadable
read_or_not (Some line) = Ok line

abbrev pub line_reading_of : ScriptLine → LineReading
line_reading_of LongLine = Err Long
line_reading_of (Whole bytes) = read_or_not (line_reading bytes)

-- the readings of these bytes, before which so many stand in the script
unfoldable pub readings_from : (before : ℕ) → List ℕ → List LineReading
readings_from before bytes = map line_reading_of (placed before (without_empty_end (slice_split is_line_end bytes)))

abbrev pub readings : List ℕ → List LineReading
readings script = map line_reading_of (lines_of script)

abbrev pub Answer : Type 0
Answer = Result Next ScriptFault

-- What an answer says of the readings to come, and of those after it. A refused line and a fault end
-- the reading.
abbrev pub IsNext : Answer → (now after : List LineReading) → Type 0
IsNext (Ok (next.Line line)) now after = now ≡ Ok line ∷ after
IsNext (Ok (next.Last line)) now after = now ≡ Ok line ∷ []
IsNext (Ok (next.Refused why)) now after = (more : List LineReading) × (now ≡ Err why ∷ more)
IsNext (Ok next.End) now after = now ≡ []
IsNext (Err fault) now after = ⊤

-- the readings to come, where the source tells its bytes
abbrev pub coming : ScriptLines → Option (List ℕ) → Option (List LineReading)
coming lines left = option_map (readings_from lines.before.bytes) (prepend_known lines.lines left)

-- what an answer says of the readings to come, and of those after it, where they are known; they
-- stay known
abbrev pub IsNextOf : Answer → (now after : Option (List LineReading)) → Type 0
IsNextOf answer None after = ⊤
IsNextOf answer (Some now) after = (behind : List LineReading) × (after ≡ Some behind) × IsNext answer now behind

-- what the bytes of a line say of an answer
abbrev pub IsTold : Answer → LineReading → Type 0
IsTold (Ok (next.Line line)) reading = reading ≡ Ok line
IsTold (Ok (next.Last line)) reading = ⊥
IsTold (Ok (next.Refused why)) reading = reading ≡ Err why
IsTold (Ok next.End) reading = ⊥
IsTold (Err fault) reading = fault ≡ Memory

-- what the bytes of the last line say of an answer
abbrev pub IsLastTold : Answer → LineReading → Type 0
IsLastTold (Ok (next.Line line)) reading = ⊥
IsLastTold (Ok (next.Last line)) reading = reading ≡ Ok line
IsLastTold (Ok (next.Refused why)) reading = reading ≡ Err why
IsLastTold (Ok next.End) reading = ⊥
IsLastTold (Err fault) reading = fault ≡ Memory

-- a fact where a line was read that others may follow
abbrev pub OnLine : Answer → Type 0 → Type 0
OnLine (Ok (next.Line line)) p = p
OnLine _ p = ⊤

-- a fact where no read failed
abbrev pub UnlessRead : Answer → Type 0 → Type 0
UnlessRead (Ok found) p = p
UnlessRead (Err Read) p = ⊤
UnlessRead (Err Memory) p = p

-- a fact of the line that was read
abbrev pub IfLine : Answer → (Line → Type 0) → Type 0
IfLine (Ok (next.Line line)) p = p line
IfLine (Ok (next.Last line)) p = p line
IfLine (Ok (next.Refused why)) p = ⊤
IfLine (Ok next.End) p = ⊤
IfLine (Err fault) p = ⊤

-- a fact where nothing is left to be read
abbrev pub OnEnd : Answer → Type 0 → Type 0
OnEnd (Ok (next.Line line)) p = ⊤
OnEnd (Ok (next.Last line)) p = p
OnEnd (Ok (next.Refused why)) p = ⊤
OnEnd (Ok next.End) p = p
OnEnd (Err fault) p = ⊤

-- ---- what was taken of the bytes to come

-- the bytes of this line and its line end were taken
pub record TakesLine (line : Line) (old new : ScriptLines) (was left : Option (List ℕ)) : Type 0 where
  pub bytes : List ℕ
  pub no_feed : HasNoFeed bytes
  pub is_line : line_reading_of (told_line old.before.bytes bytes) ≡ Ok line
  pub behind : new.before.bytes ≡ old.before.bytes + length bytes + 1
  pub taken : prepend_known old.lines was ≡ prepend_known (bytes ++ 10 ∷ new.lines) left

-- nothing was taken, and what is held is a part of a line
pub record TakesNone (old new : ScriptLines) (was left : Option (List ℕ)) : Type 0 where
  pub no_feed : HasNoFeed new.lines
  pub taken : prepend_known old.lines was ≡ prepend_known new.lines left

-- nothing, or lines that each have their line end
abbrev pub AreWholeLines : List ℕ → Type 0
AreWholeLines bytes = (bytes ≡ []) ⊎ ((front : List ℕ) × (bytes ≡ front ++ 10 ∷ []))

-- These lines were read whole, and after them a part of a line or nothing.
pub record AreReadWhole (lines : List ℕ) (was left : Option (List ℕ)) : Type 0 where
  pub are_whole : AreWholeLines lines
  pub part : List ℕ
  pub no_feed : HasNoFeed part
  pub read : was ≡ prepend_known (lines ++ part) left

-- the bytes end, or a line ends before them
abbrev pub IsLineEnd : List ℕ → Type 0
IsLineEnd rest = (rest ≡ []) ⊎ ((more : List ℕ) × (rest ≡ 10 ∷ more))

-- A line is wanted. As far as its bytes were read, it is not too long.
pub record WantsLine (old : ScriptLines) (was left : Option (List ℕ)) : Type 0 where
  pub bytes : List ℕ
  pub rest : List ℕ
  pub no_feed : HasNoFeed bytes
  pub is_rest : IsLineEnd rest
  pub not_long : told_line old.before.bytes bytes ≡ Whole bytes
  pub taken : prepend_known old.lines was ≡ prepend_known (bytes ++ rest) left

-- what an answer takes of the bytes to come
abbrev pub Takes : Answer → (old new : ScriptLines) → (was left : Option (List ℕ)) → Type 0
Takes (Ok (next.Line line)) old new was left = TakesLine line old new was left
Takes (Ok (next.Last line)) old new was left = ⊤
Takes (Ok (next.Refused why)) old new was left = ⊤
Takes (Ok next.End) old new was left = ⊤
Takes (Err Read) old new was left = TakesNone old new was left
Takes (Err Memory) old new was left = WantsLine old was left
