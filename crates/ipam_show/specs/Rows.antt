-- The lines of rows.
use Rattle.std.specs.Prelude.{ℕ, List, [], ◌∷◌, ◌++◌, Bool, true, codes, decimal, Option, Some, None, if◌then◌else◌}
use Rattle.ipam_records.specs.declared.call.Row.{Row as RowText}
use Rattle.ipam_words.specs.declared.kind.RowKind.{RowKind}
use Rattle.ipam_words.specs.Kinds.{is_key_of_kind}

-- whether a row with this key is shown: each, or those of the kind
abbrev pub is_told : Option RowKind → (key : List ℕ) → Bool
is_told None key = true
is_told (Some kind) key = is_key_of_kind kind key

unfoldable pub row_line : RowText → List ℕ
row_line row = row.key ++ (codes " " ++ (decimal row.revision ++ (codes " " ++ (row.body ++ codes "\n"))))

-- a line for each row that is shown, in the order of the rows
abbrev pub rows_text : Option RowKind → List RowText → List ℕ
rows_text kind [] = []
rows_text kind (row ∷ rows) = (if is_told kind row.key then row_line row else []) ++ rows_text kind rows
