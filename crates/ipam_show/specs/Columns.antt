-- Tables of texts, whose columns stand in line.
use Rattle.std.specs.Prelude.{ℕ, ◌+◌, ◌-◌, ◌==◌, nat_lt, List, [], ◌∷◌, ◌++◌, codes, length, map, get_or, replicate, fold, if◌then◌else◌}
use Rattle.std.specs.List.{range_with_len}

-- a row: the text of each of its columns
abbrev pub Cells : Type 0
Cells = List (List ℕ)

-- the text of a column, empty where the row is shorter
abbrev pub cell : (column : ℕ) → Cells → List ℕ
cell column row = get_or row column []

abbrev pub wider : ℕ → ℕ → ℕ
wider most length = if nat_lt most length then length else most

-- the length of the longest text of the column
abbrev pub widest : (column : ℕ) → List Cells → ℕ
widest column = fold (λ most row. wider most (length (cell column row))) 0

abbrev pub widths : (columns : ℕ) → List Cells → List ℕ
widths columns rows = map (λ column. widest column rows) (range_with_len 0 columns)

-- how much the text is shorter than its column
abbrev pub cell_room : (width : ℕ) → List ℕ → List ℕ
cell_room width text = replicate (width - length text) 32

-- the text of the first column stands at its left end
unfoldable pub first_placed : (width : ℕ) → List ℕ → List ℕ
first_placed width text = text ++ cell_room width text

-- the text of another column stands at its right end, after two spaces
unfoldable pub later_placed : (width : ℕ) → List ℕ → List ℕ
later_placed width text = codes "  " ++ (cell_room width text ++ text)

abbrev pub cell_placed : (column width : ℕ) → List ℕ → List ℕ
cell_placed column width text = if column == 0 then first_placed width text else later_placed width text

-- the columns of a row from this one on, which have these widths
abbrev pub cells_from : (column : ℕ) → List ℕ → Cells → List ℕ
cells_from column [] row = []
cells_from column (width ∷ widths) row = cell_placed column width (cell column row) ++ cells_from (column + 1) widths row

abbrev pub line : List ℕ → Cells → List ℕ
line widths row = cells_from 0 widths row ++ codes "\n"

abbrev pub lines : List ℕ → List Cells → List ℕ
lines widths [] = []
lines widths (row ∷ rows) = line widths row ++ lines widths rows

-- a line for each row
abbrev pub table_text : (columns : ℕ) → List Cells → List ℕ
table_text columns rows = lines (widths columns rows) rows
