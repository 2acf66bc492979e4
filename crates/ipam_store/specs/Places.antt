-- Where the row of a key stands among rows.
use Rattle.std.specs.Prelude.{◌≡◌, ℕ, ◌<◌, ◌≤◌, Bool, true, List, [], ◌∷◌, length, map, All, slice_index_or}
use Rattle.std.specs.declared.cmp.Ordering.TheVariants.{Less, Equal, Greater}
use Rattle.std.specs.Ordering.{is_le}
use Rattle.std.specs.List.Sorted.{IsStrictlySortedBy}
use Rattle.ipam_records.specs.declared.key.Key.{Key}
use Rattle.ipam_records.specs.declared.record.Record.{Record}
use Rattle.ipam_records.specs.KeyOrder.{key_cmp}
use Rattle.ipam_records.specs.Datastore.{row_key}

-- the keys ascend
pub record Ascend (rows : List (ℕ × Record)) : Type 0 where
  pub keys : IsStrictlySortedBy key_cmp (map row_key rows)

-- the row at this place has the key
pub record IsPlace (rows : List (ℕ × Record)) (key : Key) (place : ℕ) : Type 0 where
  pub within : place < length rows
  pub same : (d : ℕ × Record) → key_cmp (row_key (slice_index_or rows place d)) key ≡ Equal

-- the rows before this place stand before the key, and the others after it
pub record IsGap (rows : List (ℕ × Record)) (key : Key) (place : ℕ) : Type 0 where
  pub within : place ≤ length rows
  pub before : (i : ℕ) (d : ℕ × Record) → i < place → key_cmp (row_key (slice_index_or rows i d)) key ≡ Less
  pub behind : (i : ℕ) (d : ℕ × Record) → place ≤ i → i < length rows → key_cmp (row_key (slice_index_or rows i d)) key ≡ Greater

-- these rows stand before the key, or after it
abbrev pub IsBefore : Key → ℕ × Record → Type 0
IsBefore k r = key_cmp (row_key r) k ≡ Less

abbrev pub IsBehind : Key → ℕ × Record → Type 0
IsBehind k r = key_cmp (row_key r) k ≡ Greater

abbrev pub AllBefore : Key → List (ℕ × Record) → Type 0
AllBefore k = All (IsBefore k)

abbrev pub AllBehind : Key → List (ℕ × Record) → Type 0
AllBehind k = All (IsBehind k)

-- the first row stands before the key or has it
abbrev pub begins_by : Key → List (ℕ × Record) → Bool
begins_by k [] = true
begins_by k (r ∷ rs) = is_le (key_cmp (row_key r) k)
