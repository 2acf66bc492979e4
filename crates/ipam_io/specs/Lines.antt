-- What a call for the next line answers, and the bytes that it takes.
use Rattle.std.specs.Prelude.{◌≡◌, ◌≢◌, ℕ, List, [], ◌∷◌, ◌++◌, ⊤, Result, Ok, Err}
use Rattle.ipam_io.specs.Feeds.{IsLine, IsTooLong}
use Rattle.ipam_io.specs.declared.lines.Got.{Got}
use Rattle.ipam_io.specs.declared.lines.Got.TheVariants.{Line, End, Cut}
use Rattle.ipam_io.specs.declared.lines.LinesFault.{LinesFault}
use Rattle.ipam_io.specs.declared.lines.LinesFault.TheVariants.{TooLong, Read, Memory}

-- the bytes that an answer takes away: a line with its line feed, or none
abbrev pub bytes_taken : Result Got LinesFault → List ℕ
bytes_taken (Ok (Line line)) = line.items ++ 10 ∷ []
bytes_taken (Ok End) = []
bytes_taken (Ok Cut) = []
bytes_taken (Err fault) = []

-- what may be answered where these are the bytes to come: beside the faults of reads and memory, one answer alone
abbrev pub IsAnswerTo : (limit : ℕ) → List ℕ → Result Got LinesFault → Type 0
IsAnswerTo limit bytes (Ok (Line line)) = IsLine limit line.items × (rest : List ℕ) × (bytes ≡ line.items ++ 10 ∷ rest)
IsAnswerTo limit bytes (Ok End) = bytes ≡ []
IsAnswerTo limit bytes (Ok Cut) = IsLine limit bytes × (bytes ≢ [])
IsAnswerTo limit bytes (Err TooLong) = IsTooLong limit bytes
IsAnswerTo limit bytes (Err Read) = ⊤
IsAnswerTo limit bytes (Err Memory) = ⊤

-- a fact of the line that was answered
abbrev pub IfLine : Result Got LinesFault → (List ℕ → Type 0) → Type 0
IfLine (Ok (Line line)) p = p line.items
IfLine (Ok End) p = ⊤
IfLine (Ok Cut) p = ⊤
IfLine (Err fault) p = ⊤

-- a fact where the answer is that the input ended between lines
abbrev pub OnEnd : Result Got LinesFault → Type 0 → Type 0
OnEnd (Ok (Line line)) p = ⊤
OnEnd (Ok End) p = p
OnEnd (Ok Cut) p = ⊤
OnEnd (Err fault) p = ⊤

-- a fact where the answer is that the input ended inside a line
abbrev pub OnCut : Result Got LinesFault → Type 0 → Type 0
OnCut (Ok (Line line)) p = ⊤
OnCut (Ok End) p = ⊤
OnCut (Ok Cut) p = p
OnCut (Err fault) p = ⊤

-- a fact where the line is too long
abbrev pub OnTooLong : {T : Type 0} → Result T LinesFault → Type 0 → Type 0
OnTooLong (Ok value) p = ⊤
OnTooLong (Err TooLong) p = p
OnTooLong (Err Read) p = ⊤
OnTooLong (Err Memory) p = ⊤

-- a fact where a read failed
abbrev pub OnReadFault : {T : Type 0} → Result T LinesFault → Type 0 → Type 0
OnReadFault (Ok value) p = ⊤
OnReadFault (Err TooLong) p = ⊤
OnReadFault (Err Read) p = p
OnReadFault (Err Memory) p = ⊤

-- a fact where no read failed
abbrev pub OnNoReadFault : {T : Type 0} → Result T LinesFault → Type 0 → Type 0
OnNoReadFault (Ok value) p = p
OnNoReadFault (Err TooLong) p = p
OnNoReadFault (Err Read) p = ⊤
OnNoReadFault (Err Memory) p = p
