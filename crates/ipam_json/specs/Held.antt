-- What the JSON of a text holds, where this is printed as that very text.
use Rattle.std.specs.Prelude.{ℕ, List, bytes_eq, Option}
use Rattle.serde_json.specs.Data.{Data}
use Rattle.serde_json.specs.Read.{read}
use Rattle.ipam_json.specs.Members.{◌>>=◌, only_if}

-- the value, where this is its text
abbrev pub if_printed : {A : Type 0} → (A → List ℕ) → List ℕ → A → Option A
if_printed text body v = only_if (bytes_eq (text v) body) v

-- what the JSON of the body holds, where this is printed as the body
unfoldable pub held : {A : Type 0} → (Data → Option A) → (A → List ℕ) → List ℕ → Option A
held found text body = do
  d ← read body
  v ← found d
  if_printed text body v
