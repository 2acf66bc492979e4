-- The bytes of keys and values.
use Rattle.std.specs.Prelude.{ℕ, Bool, false, not, ◌&&◌, ◌||◌, List, [], ◌∷◌, length, ◌==◌, nat_le, nat_lt}
use Rattle.std.specs.List.{list_all}
use Rattle.std.specs.Char.{is_ascii_alphanumeric}
use Rattle.std.specs.Str.{is_utf8}
use Rattle.ipam_select.specs.declared.limits.TheConstants.{LABEL_KEY_BYTES_MAX, LABEL_VALUE_BYTES_MAX}

-- a space or a tab
abbrev pub is_blank : ℕ → Bool
is_blank b = b == 32 || b == 9

-- an ASCII letter or digit, `_`, `.`, `-` or `/`
abbrev pub is_key_byte : ℕ → Bool
is_key_byte b = is_ascii_alphanumeric b || b == 95 || b == 46 || b == 45 || b == 47

-- a key of a label: 1 to 317 of these bytes
abbrev pub is_key : List ℕ → Bool
is_key key = nat_lt 0 (length key) && nat_le (length key) LABEL_KEY_BYTES_MAX && list_all is_key_byte key

-- a value: at most 253 bytes of UTF-8
abbrev pub is_value : List ℕ → Bool
is_value value = nat_le (length value) LABEL_VALUE_BYTES_MAX && is_utf8 value

-- the byte isn't in the text
abbrev pub lacks : ℕ → List ℕ → Bool
lacks byte text = list_all (λ b. not (b == byte)) text

-- the text goes on with a byte that passes the test
abbrev pub begins : (ℕ → Bool) → List ℕ → Bool
begins test [] = false
begins test (b ∷ text) = test b
