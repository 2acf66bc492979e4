-- Rows stay ascending when one is put in or taken out, and a part of ascending rows ascends.
use Rattle.std.proofs.Common.{ℕ, List, map}
use Rattle.std.specs.List.Sorted.{IsStrictlySortedBy}
use Rattle.ipam_records.specs.declared.key.Key.{Key}
use Rattle.ipam_records.specs.declared.record.Record.{Record}
use Rattle.ipam_records.specs.KeyOrder.{key_cmp}
use Rattle.ipam_records.specs.Datastore.{row_key, with_row, without_row}
use Rattle.ipam_records.proofs.RowSearch.{sorted-left, sorted-right}
use Rattle.ipam_records.proofs.RowWrites.{sorted-with_row, sorted-without_row}
use Rattle.ipam_store.specs.Places.{Ascend}
use Rattle.ipam_store.specs.Lists.{Lists, all_rows, list_on}
use Rattle.ipam_store.specs.declared.shelf.Shelf.{Shelf}
use Rattle.ipam_store.specs.declared.shelf.Shelf.TheVariants.{Singles, Blocks, Affinities, Handles}

pub Ascend-with_row : (new : ℕ × Record) (rows : List (ℕ × Record)) → Ascend rows → Ascend (with_row new rows)
Ascend-with_row new rows s = record { keys = sorted-with_row new rows s.keys }

pub Ascend-without_row : (key : Key) (rows : List (ℕ × Record)) → Ascend rows → Ascend (without_row key rows)
Ascend-without_row key rows s = record { keys = sorted-without_row key rows s.keys }

pub Ascend-list : (lists : Lists) → IsStrictlySortedBy key_cmp (map row_key (all_rows lists)) → (s : Shelf) → Ascend (list_on s lists)
Ascend-list lists all Singles = record { keys = sorted-left lists.singles _ all }
Ascend-list lists all Blocks = record { keys = sorted-left lists.blocks _ (sorted-right lists.singles _ all) }
Ascend-list lists all Affinities = record { keys = sorted-left lists.affinities _ (sorted-right lists.blocks _ (sorted-right lists.singles _ all)) }
Ascend-list lists all Handles = record { keys = sorted-right lists.affinities _ (sorted-right lists.blocks _ (sorted-right lists.singles _ all)) }
