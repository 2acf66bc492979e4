-- The rows of the datastore, kept in four lists.
use Rattle.std.specs.Prelude.{◌≡◌, ℕ, List, ◌++◌, All}
use Rattle.ipam_records.specs.declared.record.Record.{Record}
use Rattle.ipam_records.specs.Datastore.{row_key}
use Rattle.ipam_store.specs.declared.shelf.Shelf.{Shelf}
use Rattle.ipam_store.specs.declared.shelf.Shelf.TheVariants.{Singles, Blocks, Affinities, Handles}
use Rattle.ipam_store.specs.Shelf.{shelf_of}

pub record Lists : Type 0 where
  pub singles : List (ℕ × Record)
  pub blocks : List (ℕ × Record)
  pub affinities : List (ℕ × Record)
  pub handles : List (ℕ × Record)

-- all rows, one list after the other
abbrev pub all_rows : Lists → List (ℕ × Record)
all_rows lists = lists.singles ++ (lists.blocks ++ (lists.affinities ++ lists.handles))

abbrev pub list_on : Shelf → Lists → List (ℕ × Record)
list_on Singles lists = lists.singles
list_on Blocks lists = lists.blocks
list_on Affinities lists = lists.affinities
list_on Handles lists = lists.handles

-- the lists with this one in place of one of them
abbrev pub with_list : Shelf → List (ℕ × Record) → Lists → Lists
with_list Singles rows lists = record lists { singles = rows }
with_list Blocks rows lists = record lists { blocks = rows }
with_list Affinities rows lists = record lists { affinities = rows }
with_list Handles rows lists = record lists { handles = rows }

-- the row's key belongs there
pub record IsOn (shelf : Shelf) (row : ℕ × Record) : Type 0 where
  pub is : shelf_of (row_key row) ≡ shelf

-- each list has rows of its own keys alone
pub record AreShelved (lists : Lists) : Type 0 where
  pub singles : All (IsOn Singles) lists.singles
  pub blocks : All (IsOn Blocks) lists.blocks
  pub affinities : All (IsOn Affinities) lists.affinities
  pub handles : All (IsOn Handles) lists.handles
