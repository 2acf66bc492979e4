-- What the members of a request's objects hold.
use Rattle.std.specs.Prelude.{ℕ, List, [], ◌∷◌, ◌++◌, codes, Bool, true, false, bytes_eq, Option, Some, None, option_and_then, option_map, if◌then◌else◌}
use Rattle.serde_json.specs.Data.{Data, Items, no_items, item, Members, no_members, member}
use Rattle.serde_json.specs.Find.{get, as_bool, as_str, as_array, as_object}
use Rattle.ipam_json.specs.Path.{as_whole}
use Rattle.ipam_addr.specs.Shape.{AddrValue, CidrValue}
use Rattle.ipam_addr.specs.Text.{address_of}
use Rattle.ipam_select.specs.Formula.{Formula, every}
use Rattle.ipam_pool.specs.declared.pools.Mode.{Mode}
use Rattle.ipam_pool.specs.declared.pools.Mode.TheVariants.{Automatic, Manual}
use Rattle.ipam_json.specs.Members.{◌>>=◌, only_if, text_at, in_8_bits, in_32_bits}
use Rattle.ipam_record_text.specs.Reservations.{cidr_in}
use Rattle.ipam_record_text.specs.Rules.{selector_of}
use Rattle.ipam_model.specs.Pairs.{Pair}
use Rattle.ipam_request_text.specs.declared.shape.Shape.TheVariants.{Scope}
use Rattle.ipam_request_text.specs.Shapes.{are_known}

-- what is read of a member, or this where there is none
abbrev pub found_or : {A : Type 0} → A → (Data → Option A) → Option Data → Option A
found_or missing f None = Some missing
found_or missing f (Some d) = f d

abbrev pub truth_or : Bool → List ℕ → Data → Option Bool
truth_or missing name d = found_or missing as_bool (get name d)

abbrev pub whole_or_0 : List ℕ → Data → Option ℕ
whole_or_0 name d = found_or 0 as_whole (get name d)

-- the whole number, where 32 bits hold it
abbrev pub number_in : Data → Option ℕ
number_in d = option_and_then in_32_bits (as_whole d)

abbrev pub number_or_0 : List ℕ → Data → Option ℕ
number_or_0 name d = found_or 0 number_in (get name d)

-- the whole number of this name, where 8 bits hold it
abbrev pub small_at : List ℕ → Data → Option ℕ
small_at name d = option_and_then in_8_bits (option_and_then as_whole (get name d))

-- the texts, and after them those that the items are
abbrev pub texts_after : List (List ℕ) → Items → Option (List (List ℕ))
texts_after texts no_items = Some texts
texts_after texts (item d ds) = do
  text ← as_str d
  texts_after (texts ++ text ∷ []) ds

abbrev pub texts_in : Data → Option (List (List ℕ))
texts_in d = option_and_then (texts_after []) (as_array d)

abbrev pub texts_or_none : List ℕ → Data → Option (List (List ℕ))
texts_or_none name d = found_or [] texts_in (get name d)

-- the pairs, and after them those that the members are
abbrev pub pairs_after : List Pair → Members → Option (List Pair)
pairs_after pairs no_members = Some pairs
pairs_after pairs (member key d ms) = do
  value ← as_str d
  pairs_after (pairs ++ (key, value) ∷ []) ms

abbrev pub pairs_in : Data → Option (List Pair)
pairs_in d = option_and_then (pairs_after []) (as_object d)

abbrev pub pairs_or_none : List ℕ → Data → Option (List Pair)
pairs_or_none name d = found_or [] pairs_in (get name d)

-- the address whose text the JSON is
abbrev pub address_in : Data → Option AddrValue
address_in d = option_and_then address_of (as_str d)

-- the addresses, and after them those that the items are
abbrev pub addresses_after : List AddrValue → Items → Option (List AddrValue)
addresses_after addresses no_items = Some addresses
addresses_after addresses (item d ds) = do
  a ← address_in d
  addresses_after (addresses ++ a ∷ []) ds

-- the CIDR whose text has this name
abbrev pub cidr_member : List ℕ → Data → Option CidrValue
cidr_member name d = option_and_then cidr_in (get name d)

abbrev pub mode_named : List ℕ → Option Mode
mode_named text =
    if bytes_eq text (codes "Automatic") then Some Automatic
    else if bytes_eq text (codes "Manual") then Some Manual
    else None

abbrev pub mode_in : Data → Option Mode
mode_in d = option_and_then mode_named (as_str d)

abbrev pub mode_or : Data → Option Mode
mode_or d = found_or Automatic mode_in (get (codes "mode") d)

abbrev pub selector_in : Data → Option Formula
selector_in d = option_and_then selector_of (as_str d)

abbrev pub selector_or : Data → Option Formula
selector_or d = found_or every selector_in (get (codes "selector") d)

-- the object, where it has the members of a scope alone
unfoldable pub named_scope : Data → Option (List ℕ × List ℕ)
named_scope d = do
  members ← as_object d
  known ← only_if (are_known Scope members) d
  network ← text_at (codes "network") known
  node ← text_at (codes "node") known
  Some (network, node)

abbrev pub scope_in : Data → Option (Option (List ℕ × List ℕ))
scope_in d = option_map Some (named_scope d)

abbrev pub scope_or : Data → Option (Option (List ℕ × List ℕ))
scope_or d = found_or None scope_in (get (codes "scope") d)
