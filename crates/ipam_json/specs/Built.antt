-- Data built of lists, and the lists that data holds.
use Rattle.std.specs.Prelude.{◌≡◌, ℕ, List, [], ◌∷◌, map, Option, Some, String, string_bytes, option_map, option_and_then, ⊤}
use Rattle.std.specs.declared.alloc.Global.{Global}
use Rattle.std.specs.declared.cmp.Ordering.TheVariants.{Less}
use Rattle.std.specs.Ordering.{nat_cmp}
use Rattle.std.specs.Cmp.Lexicographic.{slice_cmp}
use Rattle.serde_json.specs.Data.{Data, unsigned, number, array, object, Items, no_items, item, Members, no_members, member}
use Rattle.serde_json.specs.Find.{as_array, as_object}
use Rattle.serde_json.specs.View.{items_of, view}
use Rattle.serde_json.specs.declared.value.Value.{Value}
use Rattle.ipam_json.specs.Path.{as_whole}

-- a name and its value
abbrev pub Field : Type 0
Field = List ℕ × Data

-- the array of these items
abbrev pub array_of : List Data → Data
array_of ds = array (items_of ds)

abbrev pub members_from : List Field → Members
members_from [] = no_members
members_from (m ∷ ms) = member m.0 m.1 (members_from ms)

-- the object of these members, in this order
abbrev pub object_of : List Field → Data
object_of ms = object (members_from ms)

-- the object with this one member
abbrev pub tagged : List ℕ → Data → Data
tagged name d = object_of ((name, d) ∷ [])

abbrev pub whole_data : ℕ → Data
whole_data n = number (unsigned n)

abbrev pub item_list : Items → List Data
item_list no_items = []
item_list (item d ds) = d ∷ item_list ds

abbrev pub member_list : Members → List Field
member_list no_members = []
member_list (member k d ms) = (k, d) ∷ member_list ms

-- the items of an array
abbrev pub items_in : Data → Option (List Data)
items_in d = option_map item_list (as_array d)

-- the members of an object, in their order
abbrev pub members_in : Data → Option (List Field)
members_in d = option_map member_list (as_object d)

abbrev pub names : {A : Type 0} → List (List ℕ × A) → List (List ℕ)
names ms = map (λ m. m.0) ms

-- each name comes before the next, by its bytes
abbrev pub IsAscending : List (List ℕ) → Type 0
IsAscending [] = ⊤
IsAscending (k ∷ []) = ⊤
IsAscending (k ∷ l ∷ ks) = (slice_cmp nat_cmp k l ≡ Less) × IsAscending (l ∷ ks)

-- what the entries of a `Map` stand for
abbrev pub fields_of : List (String Global × Value) → List Field
fields_of es = map (λ e. (string_bytes e.0, view e.1)) es

-- ---- a map of counts

-- a name and its count
abbrev pub Count : Type 0
Count = List ℕ × ℕ

-- the object whose members are the counts
abbrev pub counts_object : List Count → Data
counts_object cs = object_of (map (λ c. (c.0, number (unsigned c.1))) cs)

abbrev pub counts_from : Members → Option (List Count)
counts_from no_members = Some []
counts_from (member k d ms) =
    option_and_then (λ n. option_map (λ cs. (k, n) ∷ cs) (counts_from ms)) (as_whole d)

-- the counts of an object whose members are all whole numbers
abbrev pub counts_in : Data → Option (List Count)
counts_in d = option_and_then counts_from (as_object d)
