-- Lines in bytes: a line is what stands before a line feed. A limit is how many bytes a line has at the
-- most, with its line feed.
use Rattle.std.specs.Prelude.{◌≡◌, ◌≢◌, ℕ, ◌+◌, ◌<◌, ◌≤◌, List, [], ◌∷◌, ◌++◌, length, take, drop, All}

-- no byte is a line feed
abbrev pub HasNoFeed : List ℕ → Type 0
HasNoFeed bytes = All (λ byte. byte ≢ 10) bytes

-- the bytes may stand before a line feed, or may become such bytes
abbrev pub IsLine : (limit : ℕ) → List ℕ → Type 0
IsLine limit bytes = HasNoFeed bytes × (length bytes < limit)

-- the bytes begin with more than a line may have
abbrev pub IsTooLong : (limit : ℕ) → List ℕ → Type 0
IsTooLong limit bytes = HasNoFeed (take limit bytes) × (limit ≤ length bytes)

-- the first line feed of the bytes stands at this place
pub record IsFirstFeed (bytes : List ℕ) (place : ℕ) : Type 0 where
  pub before : HasNoFeed (take place bytes)
  pub splits : bytes ≡ take place bytes ++ 10 ∷ drop (place + 1) bytes

-- the bytes of lines, each with its line feed, one after another
abbrev pub bytes_of_lines : List (List ℕ) → List ℕ
bytes_of_lines [] = []
bytes_of_lines (line ∷ lines) = line ++ 10 ∷ bytes_of_lines lines

-- the bytes are these lines in order, and then the rest
abbrev pub AreLinesBefore : (limit : ℕ) → List (List ℕ) → List ℕ → List ℕ → Type 0
AreLinesBefore limit lines rest bytes = All (IsLine limit) lines × (bytes ≡ bytes_of_lines lines ++ rest)
