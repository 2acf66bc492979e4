-- How a script is cut into lines.
use Rattle.std.specs.Prelude.{ℕ, ◌+◌, ◌==◌, ◌&&◌, ◌||◌, List, [], ◌∷◌, length, Bool, nat_lt, if◌then◌else◌}
use Rattle.std.specs.List.{slice_split}
use Rattle.ipam_answer_text.specs.declared.limits.TheConstants.{MOST_LINE_BYTES, MOST_SCRIPT_BYTES}

-- a line, or that it is too long or ends too late
pub data ScriptLine : Type 0 where
  Whole : (bytes : List ℕ) → ScriptLine
  Long : ScriptLine

abbrev pub is_line_end : ℕ → Bool
is_line_end c = c == 10

-- the parts between line ends; after the last line end there is a line only if a byte stands there
abbrev pub without_empty_end : List (List ℕ) → List (List ℕ)
without_empty_end [] = []
without_empty_end ([] ∷ []) = []
without_empty_end ((c ∷ line) ∷ []) = (c ∷ line) ∷ []
without_empty_end (line ∷ next ∷ lines) = line ∷ without_empty_end (next ∷ lines)

-- too many bytes, or the last of them too late; an empty line has no last byte
abbrev pub is_long : (before : ℕ) → List ℕ → Bool
is_long before line =
    nat_lt MOST_LINE_BYTES (length line)
    || (nat_lt 0 (length line) && nat_lt MOST_SCRIPT_BYTES (before + length line))

abbrev pub told_line : (before : ℕ) → List ℕ → ScriptLine
told_line before line = if is_long before line then Long else Whole line

-- the lines, the first of which begins after so many bytes
abbrev pub placed : (before : ℕ) → List (List ℕ) → List ScriptLine
placed before [] = []
placed before (line ∷ lines) = told_line before line ∷ placed (before + length line + 1) lines

-- the lines of a script, in their order
unfoldable pub lines_of : List ℕ → List ScriptLine
lines_of script = placed 0 (without_empty_end (slice_split is_line_end script))
