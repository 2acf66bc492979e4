-- The words and numbers of a line.
use Rattle.std.specs.Prelude.{ℕ, ◌^◌, ◌==◌, ◌&&◌, List, length, Bool, nat_lt, nat_le, Option, Some, None, option_and_then, if◌then◌else◌}
use Rattle.std.specs.List.{before_first, after_first, position_or_len}
use Rattle.std.specs.Str.Parse.{digits_value}
use Rattle.ipam_json.specs.Path.{is_index}
use Rattle.ipam_json.specs.Members.{only_if}
use Rattle.ipam_model.specs.declared.limits.TheConstants.{SLOTS}

abbrev pub is_space : ℕ → Bool
is_space c = c == 32

abbrev pub has_space : List ℕ → Bool
has_space text = nat_lt (position_or_len is_space text) (length text)

-- the first word, and what stands after the space that ends it
abbrev pub split_word : List ℕ → Option (List ℕ × List ℕ)
split_word text = only_if (has_space text) (before_first is_space text, after_first is_space text)

-- the number, where 64 bits hold it
abbrev pub in_64_bits : ℕ → Option ℕ
in_64_bits n = only_if (nat_lt n (2 ^ 64)) n

-- the number that the word writes in decimal, with no `0` before another digit
abbrev pub number_of : List ℕ → Option ℕ
number_of word = if is_index word then in_64_bits (digits_value 10 word) else None

-- slots are counted from 0 to 63
abbrev pub slot_number_in : ℕ → Option ℕ
slot_number_in n = only_if (nat_lt n SLOTS) n

abbrev pub slot_named : List ℕ → Option ℕ
slot_named word = option_and_then slot_number_in (number_of word)

-- at least one turn, and at most 100,000
abbrev pub turns_in : ℕ → Option ℕ
turns_in n = only_if (nat_le 1 n && nat_le n 100000) n

abbrev pub turns_of : List ℕ → Option ℕ
turns_of word = option_and_then turns_in (number_of word)
