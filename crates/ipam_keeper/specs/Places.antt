-- Where the row of a key stands among rows.
use Rattle.std.specs.Prelude.{◌≡◌, ℕ, ◌<◌, ◌≤◌, List, length, slice_index_or}
use Rattle.std.specs.declared.cmp.Ordering.TheVariants.{Less, Equal, Greater}
use Rattle.ipam_records.specs.declared.call.Row.{Row}
use Rattle.ipam_keeper.specs.Rows.{text_cmp, row_key_text}

-- the row at this place has the key
pub record IsPlace (rows : List Row) (key : List ℕ) (place : ℕ) : Type 0 where
  pub within : place < length rows
  pub same : (d : Row) → text_cmp (row_key_text (slice_index_or rows place d)) key ≡ Equal

-- the rows before this place stand before the key, and the others after it
pub record IsGap (rows : List Row) (key : List ℕ) (place : ℕ) : Type 0 where
  pub within : place ≤ length rows
  pub before : (i : ℕ) (d : Row) → i < place → text_cmp (row_key_text (slice_index_or rows i d)) key ≡ Less
  pub behind : (i : ℕ) (d : Row) → place ≤ i → i < length rows → text_cmp (row_key_text (slice_index_or rows i d)) key ≡ Greater
