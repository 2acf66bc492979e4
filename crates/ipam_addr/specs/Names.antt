-- The texts that name a node, a pool or a reservation, and the ids of handles.
use Rattle.std.specs.Prelude.{ℕ, Bool, false, ◌&&◌, ◌||◌, List, [], ◌∷◌, length, ◌==◌, nat_le}
use Rattle.std.specs.List.{list_all}
use Rattle.std.specs.Char.{is_ascii_alphanumeric}
use Rattle.ipam_addr.specs.declared.names.TheConstants.{MOST_NAME_BYTES, MOST_HANDLE_BYTES}

-- a letter, a digit, `_`, `.` or `-`
abbrev pub is_name_byte : ℕ → Bool
is_name_byte c = is_ascii_alphanumeric c || c == 95 || c == 46 || c == 45

-- a letter or a digit, and then bytes of a name, at most this many in all
abbrev pub is_name_within : ℕ → List ℕ → Bool
is_name_within most [] = false
is_name_within most (first ∷ rest) =
    is_ascii_alphanumeric first && nat_le (length (first ∷ rest)) most && list_all is_name_byte rest

-- the text may name a node, a pool or a reservation
abbrev pub is_name_text : List ℕ → Bool
is_name_text text = is_name_within MOST_NAME_BYTES text

-- the text may be the id of a handle
abbrev pub is_handle_text : List ℕ → Bool
is_handle_text text = is_name_within MOST_HANDLE_BYTES text
