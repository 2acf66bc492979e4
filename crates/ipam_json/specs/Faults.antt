-- What a fault of a reader says.
use Rattle.std.specs.Prelude.{◌≡◌, ℕ, List, Option, None, string_bytes, ⊤}
use Rattle.ipam_json.specs.declared.fault.Want.{Want}
use Rattle.ipam_json.specs.declared.fault.ReadFault.{ReadFault}
use Rattle.ipam_json.specs.declared.fault.ReadFault.TheVariants.{Field, Memory}

-- the fault names this path and this kind, unless it is of memory
abbrev pub IsFaultAt : List ℕ → Want → ReadFault → Type 0
IsFaultAt path want (Field f) = (string_bytes f.path ≡ path) × (f.want ≡ want)
IsFaultAt path want Memory = ⊤

-- The fault names this path and this kind, and nothing of the kind was found there. A fault of
-- memory says nothing.
abbrev pub IsFault : {A : Type 0} → List ℕ → Want → Option A → ReadFault → Type 0
IsFault path want found (Field f) = (found ≡ None) × (string_bytes f.path ≡ path) × (f.want ≡ want)
IsFault path want found Memory = ⊤
