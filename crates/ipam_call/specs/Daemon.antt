-- The daemon that the environment names.
use Rattle.std.specs.Prelude.{ℕ, List, [], ◌∷◌, Option, Some, None, unwrap_or}
use Rattle.ipam_call.specs.Values.{text_of}

-- the value as an address, which is empty where it is no text; an empty value names none
abbrev pub address_of : Option (List ℕ) → Option (List ℕ)
address_of None = None
address_of (Some []) = None
address_of (Some (byte ∷ more)) = Some (unwrap_or (text_of (byte ∷ more)) [])
