-- What the values of members are read as.
use Rattle.std.specs.Prelude.{ℕ, ◌^◌, ◌||◌, List, [], ◌∷◌, ◌++◌, codes, Bool, true, false, bytes_eq, nat_lt, Option, Some, None, option_map, option_and_then, if◌then◌else◌}
use Rattle.std.specs.Option.{option_or}
use Rattle.serde_json.specs.Data.{Data, Items, no_items, item}
use Rattle.serde_json.specs.Find.{as_str, as_array}
use Rattle.ipam_json.specs.Path.{as_whole}
use Rattle.ipam_addr.specs.declared.address.Family.{Family}
use Rattle.ipam_addr.specs.declared.address.Family.TheVariants.{V4, V6}
use Rattle.ipam_addr.specs.Made.{cidr_at_prefix}
use Rattle.ipam_addr.specs.Shape.{AddrValue, CidrValue}
use Rattle.ipam_addr.specs.Text.{address_of}
use Rattle.ipam_addr.specs.Width.{width}
use Rattle.ipam_select.specs.Formula.{Formula}
use Rattle.ipam_pool.specs.declared.pools.Mode.{Mode}
use Rattle.ipam_pool.specs.declared.pools.Mode.TheVariants.{Automatic, Manual}
use Rattle.ipam_json.specs.Members.{◌>>=◌, only_if, in_32_bits}
use Rattle.ipam_record_text.specs.Blocks.{cidr_of, name_read}
use Rattle.ipam_record_text.specs.Rules.{selector_of}

-- a text that may name a pool or a reservation
unfoldable pub name_in : Data → Option (List ℕ)
name_in d = option_and_then name_read (as_str d)

-- a whole number from 0 to 255
unfoldable pub size_in : Data → Option ℕ
size_in d = do
  n ← as_whole d
  only_if (nat_lt n (2 ^ 8)) n

-- a whole number from 0 to 2^32 - 1
unfoldable pub bound_in : Data → Option ℕ
bound_in d = option_and_then in_32_bits (as_whole d)

-- a selector by a text that is read as it
unfoldable pub selector_value_in : Data → Option Formula
selector_value_in d = option_and_then selector_of (as_str d)

-- a mode by its name
unfoldable pub mode_of : List ℕ → Option Mode
mode_of text =
    if bytes_eq text (codes "Automatic") then Some Automatic
    else (if bytes_eq text (codes "Manual") then Some Manual else None)

unfoldable pub mode_value_in : Data → Option Mode
mode_value_in d = option_and_then mode_of (as_str d)

-- the prefix length of a pool's slots where the resource states none
abbrev pub default_size : Family → ℕ
default_size V4 = 26
default_size V6 = 122

abbrev pub is_text : List ℕ → Option (List ℕ) → Bool
is_text text None = false
is_text text (Some other) = bytes_eq other text

-- one of the items is this text
abbrev pub lists_text : List ℕ → Items → Bool
lists_text text no_items = false
lists_text text (item d ds) = is_text text (as_str d) || lists_text text ds

abbrev pub has_no_items : Items → Bool
has_no_items no_items = true
has_no_items (item d ds) = false

-- the uses of a pool are any, or workloads are one of them
unfoldable pub are_uses : Items → Bool
are_uses ds = has_no_items ds || lists_text (codes "Workload") ds

abbrev pub uses_in : Data → Option (Unit {0})
uses_in d = do
  ds ← as_array d
  only_if (are_uses ds) tt

-- the CIDR of the address alone
abbrev pub cidr_of_address : AddrValue → CidrValue
cidr_of_address a = cidr_at_prefix a (width a.family)

-- the CIDR that the text writes, or that of the address alone that it writes
unfoldable pub range_of : List ℕ → Option CidrValue
range_of text = option_or (cidr_of text) (option_map cidr_of_address (address_of text))

unfoldable pub range_in : Data → Option CidrValue
range_in d = option_and_then range_of (as_str d)

-- the ranges, and after them those that the items are
abbrev pub ranges_after : List CidrValue → Items → Option (List CidrValue)
ranges_after ranges no_items = Some ranges
ranges_after ranges (item d ds) = do
  r ← range_in d
  ranges_after (ranges ++ r ∷ []) ds

-- an array of CIDRs and addresses
unfoldable pub ranges_in : Data → Option (List CidrValue)
ranges_in d = do
  ds ← as_array d
  ranges_after [] ds
