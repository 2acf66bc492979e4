-- What reads and writes do to the bytes that a source has left and a sink has taken, where those are known.
use Rattle.std.specs.Prelude.{◌≡◌, ℕ, ◌≤◌, List, Option, length, take, ◌++◌}
use Rattle.std.specs.Io.KnownBytes.{append_known, Appends}

-- the known bytes grew by a front part of the piece
abbrev pub AppendsPrefix : Option (List ℕ) → Option (List ℕ) → List ℕ → Type 0
AppendsPrefix old new piece = (n : ℕ) × (n ≤ length piece) × (new ≡ append_known old (take n piece))

-- bytes that are known stay at the front, and grow by a front part of the piece
abbrev pub AppendsPart : Option (List ℕ) → Option (List ℕ) → List ℕ → Type 0
AppendsPart old new piece = (done rest : List ℕ) × (piece ≡ done ++ rest) × Appends old new done
