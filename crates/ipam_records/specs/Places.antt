-- Where what is looked for stands in an ascending list.
use Rattle.std.specs.Prelude.{◌≡◌, ℕ, ◌<◌, ◌≤◌, Bool, false, List, [], ◌∷◌, length, slice_index_or}
use Rattle.std.specs.declared.cmp.Ordering.{Ordering}
use Rattle.std.specs.declared.cmp.Ordering.TheVariants.{Less, Equal, Greater}
use Rattle.std.specs.Ordering.{is_le}
use Rattle.ipam_records.specs.declared.key.Key.{Key}
use Rattle.ipam_records.specs.declared.record.Record.{Record}
use Rattle.ipam_records.specs.Key.{key_of}
use Rattle.ipam_records.specs.KeyOrder.{key_cmp}

-- what stands at this place is what is looked for, where `stands` says how an item stands to it
pub record IsFoundAt {X : Type 0} (stands : X → Ordering) (xs : List X) (place : ℕ) : Type 0 where
  pub within : place < length xs
  pub same : (d : X) → stands (slice_index_or xs place d) ≡ Equal

-- what is before this place stands before what is looked for, and the others after it
pub record IsGapAt {X : Type 0} (stands : X → Ordering) (xs : List X) (place : ℕ) : Type 0 where
  pub within : place ≤ length xs
  pub before : (i : ℕ) (d : X) → i < place → stands (slice_index_or xs i d) ≡ Less
  pub behind : (i : ℕ) (d : X) → place ≤ i → i < length xs → stands (slice_index_or xs i d) ≡ Greater

-- the first row stands before the key or has it
abbrev pub begins_by : Key → List (ℕ × Record) → Bool
begins_by key [] = false
begins_by key (row ∷ rows) = is_le (key_cmp (key_of row.1) key)
