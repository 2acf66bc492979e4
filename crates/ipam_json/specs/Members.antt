-- What the members of an object hold.
use Rattle.std.specs.Prelude.{ℕ, ◌^◌, List, Bool, nat_lt, Option, Some, None, option_and_then, if◌then◌else◌}
use Rattle.serde_json.specs.Data.{Data, Items, Members, no_members, member}
use Rattle.serde_json.specs.Find.{get, as_bool, as_str, as_array, as_object}
use Rattle.ipam_json.specs.Path.{as_whole}
use Rattle.ipam_json.specs.Built.{Field, items_in, members_in}

infixl 10 ◌>>=◌
abbrev pub ◌>>=◌ : {A B : Type 0} → Option A → (A → Option B) → Option B
o >>= f = option_and_then f o

-- the value, where it passes
abbrev pub only_if : {A : Type 0} → Bool → A → Option A
only_if passes v = if passes then Some v else None

-- the `true` or `false` of this name
abbrev pub truth_at : List ℕ → Data → Option Bool
truth_at name d = option_and_then as_bool (get name d)

-- the text of this name
abbrev pub text_at : List ℕ → Data → Option (List ℕ)
text_at name d = option_and_then as_str (get name d)

-- the whole number of this name
abbrev pub whole_at : List ℕ → Data → Option ℕ
whole_at name d = option_and_then as_whole (get name d)

-- the number, where 8 bits hold it
abbrev pub in_8_bits : ℕ → Option ℕ
in_8_bits n = only_if (nat_lt n (2 ^ 8)) n

-- the number, where 32 bits hold it
abbrev pub in_32_bits : ℕ → Option ℕ
in_32_bits n = only_if (nat_lt n (2 ^ 32)) n

-- the number of this name, where 32 bits hold it
abbrev pub number_at : List ℕ → Data → Option ℕ
number_at name d = option_and_then in_32_bits (whole_at name d)

-- the items of the array of this name
abbrev pub items_at : List ℕ → Data → Option Items
items_at name d = option_and_then as_array (get name d)

-- the list of the items of the array of this name
abbrev pub list_at : List ℕ → Data → Option (List Data)
list_at name d = option_and_then items_in (get name d)

-- the members of the object of this name
abbrev pub members_at : List ℕ → Data → Option Members
members_at name d = option_and_then as_object (get name d)

-- the list of the members of the object of this name
abbrev pub fields_at : List ℕ → Data → Option (List Field)
fields_at name d = option_and_then members_in (get name d)

-- the name and the value of the one member
abbrev pub only_member : Members → Option (List ℕ × Data)
only_member no_members = None
only_member (member name d no_members) = Some (name, d)
only_member (member name d (member other e ms)) = None
