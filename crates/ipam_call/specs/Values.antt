-- The values of the environment's entries.
use Rattle.std.specs.Prelude.{ℕ, List, [], ◌∷◌, length, take, drop, codes, bytes_eq, Option, Some, None, option_and_then, unwrap_or, if◌then◌else◌}
use Rattle.std.specs.Str.{is_utf8}
use Rattle.std.specs.Borrow.{Bor}

-- the bytes that were found
abbrev pub found : Option (Bor (List ℕ)) → Option (List ℕ)
found (Some bytes) = Some bytes.now
found None = None

-- what stands after these bytes, where it begins with them
abbrev pub stripped : (first bytes : List ℕ) → Option (List ℕ)
stripped first bytes = if bytes_eq (take (length first) bytes) first then Some (drop (length first) bytes) else None

-- the value of an entry `NAME=value` of this name
abbrev pub value_in : (name entry : List ℕ) → Option (List ℕ)
value_in name entry = option_and_then (stripped (codes "=")) (stripped name entry)

abbrev pub newer : (older new : Option (List ℕ)) → Option (List ℕ)
newer older None = older
newer older (Some value) = Some value

-- the value of the last entry of this name, or the one found before
abbrev pub value_from : (name : List ℕ) → Option (List ℕ) → List (List ℕ) → Option (List ℕ)
value_from name older [] = older
value_from name older (entry ∷ entries) = value_from name (newer older (value_in name entry)) entries

-- the value of the last entry of this name
abbrev pub last_value : (name : List ℕ) → List (List ℕ) → Option (List ℕ)
last_value name entries = value_from name None entries

-- the bytes as a text, where they are UTF-8
abbrev pub text_of : List ℕ → Option (List ℕ)
text_of bytes = if is_utf8 bytes then Some bytes else None

-- the value where it is a text, and else what stands in for it; empty where there is none
abbrev pub text_or : (stand_in : List ℕ) → Option (List ℕ) → List ℕ
text_or stand_in None = []
text_or stand_in (Some bytes) = unwrap_or (text_of bytes) stand_in
