-- The line that asks for a page of rows, and what is read in the reply to it.
use Rattle.std.specs.Prelude.{ℕ, ◌-◌, ◌&&◌, ◌||◌, Bool, false, not, nat_le, nat_lt, List, [], ◌∷◌, ◌++◌, length, codes, slice_get, Option, Some, None, is_some}
use Rattle.std.specs.Ordering.{is_lt}
use Rattle.serde_json.specs.Data.{Data, Items, no_items, item}
use Rattle.serde_json.specs.Find.{as_bool, get}
use Rattle.ipam_json.specs.Members.{◌>>=◌, items_at, only_if, text_at, whole_at}
use Rattle.ipam_operator.specs.Answers.{json_of_line}
use Rattle.ipam_records.specs.declared.call.Row.{Row}
use Rattle.ipam_records.specs.declared.key.Key.{Key}
use Rattle.ipam_records.specs.Datastore.{most_rows}
use Rattle.ipam_records.specs.KeyOrder.{key_cmp}
use Rattle.ipam_records.specs.KeyText.{key_read}
use Rattle.ipam_words.specs.declared.kind.RowKind.{RowKind}
use Rattle.ipam_words.specs.Kinds.{is_key_of_kind, kind_word}

-- ---- the line

abbrev pub last_row : List Row → Option Row
last_row rows = slice_get rows (length rows - 1)

abbrev pub after_text : Option Row → List ℕ
after_text None = []
after_text (Some row) = codes "\",\"after\":\"" ++ row.key

-- the line that asks for the rows of the kind, from its first one on, or behind the last of these
unfoldable pub page_line : RowKind → List Row → List ℕ
page_line kind rows = codes "{\"rows\":\"" ++ (kind_word kind ++ (after_text (last_row rows) ++ codes "\"}\n"))

-- ---- a row

abbrev pub row_with : (key : List ℕ) (revision : ℕ) (body : List ℕ) → Row
row_with key revision body = record { key = key; revision = revision; body = body }

abbrev pub is_key : List ℕ → Bool
is_key text = is_some (key_read text)

-- keys rise: by family, base and prefix, or by the bytes of the node or id
abbrev pub rises : Option Key → Option Key → Bool
rises (Some last) (Some key) = is_lt (key_cmp last key)
rises (Some last) None = false
rises None key = false

abbrev pub stands_behind : (last text : List ℕ) → Bool
stands_behind last text = rises (key_read last) (key_read text)

abbrev pub follows : Option Row → (text : List ℕ) → Bool
follows (Some row) text = stands_behind row.key text
follows None text = is_key text

-- the text is a key of the kind, and stands behind the keys of these rows
abbrev pub is_next : RowKind → List Row → (text : List ℕ) → Bool
is_next kind before text = is_key_of_kind kind text && follows (last_row before) text

unfoldable pub row_of : RowKind → (before : List Row) → Data → Option Row
row_of kind before d = do
  body ← text_at (codes "body") d
  key ← text_at (codes "key") d
  revision ← whole_at (codes "revision") d
  only_if (is_next kind before key) (row_with key revision body)

-- ---- a page

-- these rows and those of the items; none where an item is no next row of the kind
abbrev pub rows_with : RowKind → (before : List Row) → Items → Option (List Row)
rows_with kind before no_items = Some before
rows_with kind before (item d ds) = do
  row ← row_of kind before d
  rows_with kind (before ++ row ∷ []) ds

-- whether there are more rows; a page that says nothing of it has the last ones
abbrev pub more_said : Option Data → Option Bool
more_said (Some d) = as_bool d
more_said None = Some false

abbrev pub more_at : Data → Option Bool
more_at d = more_said (get (codes "more") d)

-- there are no more rows than a datastore has, and a page before others has a row
abbrev pub fits : (before after : ℕ) → (more : Bool) → Bool
fits before after more = nat_le after most_rows && (not more || nat_lt before after)

unfoldable pub more_of : Data → (before after : ℕ) → Option Bool
more_of d before after = do
  more ← more_at d
  only_if (fits before after more) more

abbrev pub page_told : List Row → Option Bool → Option (List Row × Bool)
page_told rows (Some more) = Some (rows, more)
page_told rows None = None

-- these rows and those of the page, and whether there are more
unfoldable pub page_in : RowKind → (before : List Row) → Data → Option (List Row × Bool)
page_in kind before d = do
  ds ← items_at (codes "rows") d
  rows ← rows_with kind before ds
  page_told rows (more_of d (length before) (length rows))

-- these rows and those of the page that the line has, and whether there are more
unfoldable pub page_of_line : RowKind → (before : List Row) → (line : List ℕ) → Option (List Row × Bool)
page_of_line kind before line = do
  d ← json_of_line line
  page_in kind before d
