use Rattle.std.proofs.Common.{◌≡◌, ◌≤◌, drop, length}
use Rattle.ipam_records.specs.Datastore.{last_revision, most_blocks}
use Rattle.ipam_show.specs.Kept.{blocks_kept}
use Rattle.ipam_operator.specs.Datastore.{datastore_of, with_texts}
use Rattle.ipam_operator.proofs.datastore.datastore_of.Given as goal

-- the rows so far, and those that are still to come
abbrev pub invariant-loop-row : goal.invariant-loop-row
invariant-loop-row l = record {
  store : with_texts (drop l.row-index l.rows) l.store.store ≡ datastore_of l.rows;
  counter : l.store.store.counter ≡ last_revision;
  few : length (blocks_kept l.store.store) ≤ most_blocks;
}
