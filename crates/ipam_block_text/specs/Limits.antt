-- The limits on the texts in a block, as tests.
use Rattle.std.specs.Prelude.{ℕ, Bool, true, ◌&&◌, nat_le, List, [], ◌∷◌, length, Option, Some, None}
use Rattle.std.specs.List.{list_all}
use Rattle.std.specs.Ordering.{nat_cmp, is_lt}
use Rattle.std.specs.Cmp.Lexicographic.{slice_cmp}
use Rattle.ipam_addr.specs.Names.{is_name_text, is_handle_text}
use Rattle.ipam_block.specs.declared.allocation.Attributes.{Attributes}
use Rattle.ipam_block.specs.declared.limits.TheConstants.{PAIRS_MAX, KEY_BYTES_MAX, VALUE_BYTES_MAX}
use Rattle.ipam_block_text.specs.Attributes.{Pair}

-- a key has a byte at least, and it and the value are short
abbrev pub is_small_pair : Pair → Bool
is_small_pair p = nat_le 1 (length p.0) && nat_le (length p.0) KEY_BYTES_MAX && nat_le (length p.1) VALUE_BYTES_MAX

-- each key comes before the next, by its bytes, and the first comes after this one
abbrev pub ascend_after : List ℕ → List Pair → Bool
ascend_after key [] = true
ascend_after key (p ∷ pairs) = is_lt (slice_cmp nat_cmp key p.0) && ascend_after p.0 pairs

abbrev pub keys_ascend : List Pair → Bool
keys_ascend [] = true
keys_ascend (p ∷ pairs) = ascend_after p.0 pairs

-- few small pairs, the keys ascending
abbrev pub are_pairs : List Pair → Bool
are_pairs pairs = nat_le (length pairs) PAIRS_MAX && list_all is_small_pair pairs && keys_ascend pairs

abbrev pub is_node_or_none : Option (List ℕ) → Bool
is_node_or_none None = true
is_node_or_none (Some name) = is_name_text name

abbrev pub are_attributes : Attributes → Bool
are_attributes a = is_handle_text a.handle && are_pairs a.secondary
