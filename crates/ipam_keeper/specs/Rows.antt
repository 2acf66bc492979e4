-- Rows by their key texts.
use Rattle.std.specs.Prelude.{◌≡◌, ℕ, ⊤, Bool, not, List, [], ◌∷◌, map, filter, find, Option}
use Rattle.std.specs.declared.cmp.Ordering.{Ordering}
use Rattle.std.specs.declared.cmp.Ordering.TheVariants.{Less}
use Rattle.std.specs.Ordering.{nat_cmp, eq_by_cmp}
use Rattle.std.specs.Cmp.Lexicographic.{slice_cmp}
use Rattle.std.specs.List.{AllByRecursion}
use Rattle.ipam_records.specs.declared.call.Row.{Row}
use Rattle.ipam_records.specs.Datastore.{row_at}

-- key texts stand by their bytes
abbrev pub text_cmp : List ℕ → List ℕ → Ordering
text_cmp = slice_cmp nat_cmp

abbrev pub texts_equal : List ℕ → List ℕ → Bool
texts_equal = eq_by_cmp text_cmp

abbrev pub row_with : List ℕ → ℕ → List ℕ → Row
row_with key revision body = record { key = key; revision = revision; body = body }

abbrev pub row_key_text : Row → List ℕ
row_key_text row = row.key

-- the keys ascend, so each key has one row
abbrev pub Ascend : List Row → Type 0
Ascend [] = ⊤
Ascend (row ∷ rows) = AllByRecursion (λ key. text_cmp (row_key_text row) key ≡ Less) (map row_key_text rows) × Ascend rows

-- the row of a key
abbrev pub row_of : List ℕ → List Row → Option Row
row_of key = find (λ row. texts_equal (row_key_text row) key)

-- the rows with this one in its place, where it stands for the row of its key
abbrev pub rows_with : Row → List Row → List Row
rows_with row [] = row ∷ []
rows_with row (first ∷ rest) =
    row_at (text_cmp (row_key_text row) (row_key_text first)) row first rest (rows_with row rest)

-- the rows without that of the key
abbrev pub rows_without : List ℕ → List Row → List Row
rows_without key = filter (λ row. not (texts_equal (row_key_text row) key))
