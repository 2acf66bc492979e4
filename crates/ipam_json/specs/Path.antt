-- Where a path of names and indexes leads.
use Rattle.std.specs.Prelude.{ℕ, ◌==◌, ◌&&◌, List, [], ◌∷◌, length, slice_index, Bool, not, nat_lt, Option, Some, None, option_and_then, if◌then◌else◌}
use Rattle.std.specs.List.{slice_split, list_all, list_any}
use Rattle.std.specs.Char.{is_ascii_digit}
use Rattle.std.specs.Str.Parse.{digits_value}
use Rattle.serde_json.specs.Data.{Data, null, boolean, number, string, array, object}
use Rattle.serde_json.specs.Find.{get_item, get_member, as_number, as_u64}

-- a `0` stands before another digit
abbrev pub has_leading_zero : List ℕ → Bool
has_leading_zero digits = nat_lt 1 (length digits) && (slice_index digits 0 == 48)

-- decimal digits, with no `0` before another
abbrev pub is_index : List ℕ → Bool
is_index name =
    nat_lt 0 (length name) && not (has_leading_zero name) && list_all is_ascii_digit name

abbrev pub index_of : List ℕ → Option ℕ
index_of name = if is_index name then Some (digits_value 10 name) else None

-- the member of that name in an object, or the item of that index in an array
abbrev pub step : List ℕ → Data → Option Data
step name null = None
step name (boolean b) = None
step name (number n) = None
step name (string s) = None
step name (array ds) = option_and_then (λ i. get_item i ds) (index_of name)
step name (object ms) = get_member name ms

-- where the names lead, one after another
abbrev pub follow : List (List ℕ) → Data → Option Data
follow [] d = Some d
follow (name ∷ names) d = option_and_then (follow names) (step name d)

-- the names stand between dots
abbrev pub names_of : List ℕ → List (List ℕ)
names_of path = slice_split (λ c. c == 46) path

-- the empty path is the value itself
abbrev pub at_path : List ℕ → Data → Option Data
at_path [] d = Some d
at_path (c ∷ path) d = follow (names_of (c ∷ path)) d

-- the whole number, if it is one that 64 bits hold
abbrev pub as_whole : Data → Option ℕ
as_whole d = option_and_then as_u64 (as_number d)

-- the text is no single name
abbrev pub has_dot : List ℕ → Bool
has_dot name = list_any (λ c. c == 46) name
