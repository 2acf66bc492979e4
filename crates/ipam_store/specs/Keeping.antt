-- How a store keeps its rows.
use Rattle.std.specs.Prelude.{ℕ, ◌≤◌, min, length}
use Rattle.ipam_records.specs.Datastore.{Datastore, most_rows, most_blocks}
use Rattle.ipam_records.specs.Sound.{IsDatastore}
use Rattle.ipam_store.specs.Shape.{StoreValue}
use Rattle.ipam_store.specs.Lists.{Lists, all_rows, AreShelved}
use Rattle.ipam_store.specs.declared.store.Store.TheInside.{Inside}

abbrev pub lists_in : Inside → Lists
lists_in a = record {
  singles = a.singles.rows;
  blocks = a.blocks.rows;
  affinities = a.affinities.rows;
  handles = a.handles.rows;
}

abbrev pub datastore_in : Inside → Datastore
datastore_in a = record { rows = all_rows (lists_in a); counter = a.counter }

abbrev pub content_in : Inside → StoreValue
content_in a = record {
  store = datastore_in a;
  spare = min (min a.singles.spare a.blocks.spare) (min a.affinities.spare a.handles.spare);
}

-- each row is in its list, the datastore is sound, and the limits hold
pub record IsKept (lists : Lists) (counter : ℕ) : Type 0 where
  pub shelved : AreShelved lists
  pub sound : IsDatastore (record { rows = all_rows lists; counter = counter })
  pub few : length (all_rows lists) ≤ most_rows
  pub few_blocks : length lists.blocks ≤ most_blocks

abbrev pub is_kept_in : Inside → Type 0
is_kept_in a = IsKept (lists_in a) a.counter
