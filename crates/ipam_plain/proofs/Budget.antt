-- Revisions, rows and blocks that are left, and what a write takes of them.
use Rattle.std.proofs.Common.{◌≡◌, ℕ, suc, ◌+◌, ◌≤◌, Bool, true, false, cond, length, Option, Some, None, not, refl, ap, arith}
use Rattle.std.specs.Prelude.{◌&&◌, ◌||◌, nat_lt}
use Rattle.std.proofs.lemmas.Bool.{lt-ltb}
use Rattle.ipam_records.specs.declared.key.Key.{Key}
use Rattle.ipam_records.specs.declared.key.Kind.TheVariants as kind
use Rattle.ipam_records.specs.declared.record.Record.{Record}
use Rattle.ipam_records.specs.Datastore.{Datastore, has_room, last_revision, rows_of_kind, most_blocks, most_rows, row_of, with_row}
use Rattle.ipam_records.specs.Key.{key_of}
use Rattle.ipam_records.specs.KeyOrder.{is_of_kind}
use Rattle.ipam_model.specs.Reads.{StoredRecord}
use Rattle.ipam_laws.proofs.RowOrder.{count-new, count-there, filter-row_count, length-row_count}
use Rattle.ipam_plain.proofs.Alike.{IsSorted}
use Rattle.ipam_plain.proofs.Writes.{put_in}

-- there are so many revisions, rows and blocks more, at least
pub record Enough (revisions rows blocks : ℕ) (store : Datastore) : Type 0 where
  pub revisions_left : store.counter + revisions ≤ last_revision
  pub rows_left : length store.rows + rows ≤ most_rows
  pub blocks_left : length (rows_of_kind kind.Block store) + blocks ≤ most_blocks

pub enough-less : (revisions rows blocks more_revisions more_rows more_blocks : ℕ) (store : Datastore) → revisions ≤ more_revisions → rows ≤ more_rows → blocks ≤ more_blocks → Enough more_revisions more_rows more_blocks store → Enough revisions rows blocks store
enough-less revisions rows blocks more_revisions more_rows more_blocks store one two three h =
    let a = h.revisions_left in
    let b = h.rows_left in
    let c = h.blocks_left in
    record { revisions_left = omega arith; rows_left = omega arith; blocks_left = omega arith }

-- ---- room

pub room-other : (revisions rows blocks : ℕ) (store : Datastore) (k : Key) → Enough revisions (suc rows) blocks store → is_of_kind kind.Block k ≡ false → has_room store k ≡ true
room-other revisions rows blocks store k h other =
    let left = h.rows_left in
    let one = lt-ltb (length store.rows) most_rows (omega arith) in
    rw (one, other) refl

pub room-block : (revisions rows blocks : ℕ) (store : Datastore) (k : Key) → Enough revisions (suc rows) (suc blocks) store → has_room store k ≡ true
room-block revisions rows blocks store k h =
    let left = h.rows_left in
    let also = h.blocks_left in
    let one = lt-ltb (length store.rows) most_rows (omega arith) in
    let two = lt-ltb (length (rows_of_kind kind.Block store)) most_blocks (omega arith) in
    by (is_of_kind kind.Block k) one two
  where
    by : (b : Bool) → nat_lt (length store.rows) most_rows ≡ true → nat_lt (length (rows_of_kind kind.Block store)) most_blocks ≡ true
        → nat_lt (length store.rows) most_rows && (not b || nat_lt (length (rows_of_kind kind.Block store)) most_blocks) ≡ true
    by true one two = rw (one, two) refl
    by false one two = rw one refl

-- ---- what a write takes

-- in place of a record that is there
pub enough-there : (revisions rows blocks : ℕ) (store : Datastore) (new : Record) (old : StoredRecord) → Enough (suc revisions) rows blocks store → IsSorted store.rows → row_of (key_of new) store.rows ≡ Some old → Enough revisions rows blocks (put_in store new)
enough-there revisions rows blocks store new old h sorted there =
    let one = length-row_count store.rows in
    let two = length-row_count (with_row (store.counter + 1, new) store.rows) in
    let same = count-there (λ k. true) (store.counter + 1, new) store.rows old sorted there in
    let three = filter-row_count (is_of_kind kind.Block) store.rows in
    let four = filter-row_count (is_of_kind kind.Block) (with_row (store.counter + 1, new) store.rows) in
    let also = count-there (is_of_kind kind.Block) (store.counter + 1, new) store.rows old sorted there in
    let a = h.revisions_left in
    let b = h.rows_left in
    let c = h.blocks_left in
    record { revisions_left = omega arith; rows_left = omega arith; blocks_left = omega arith }

-- a new record that is no block's
pub enough-new : (revisions rows blocks : ℕ) (store : Datastore) (new : Record) → Enough (suc revisions) (suc rows) blocks store → row_of (key_of new) store.rows ≡ None → is_of_kind kind.Block (key_of new) ≡ false → Enough revisions rows blocks (put_in store new)
enough-new revisions rows blocks store new h none other =
    let one = length-row_count store.rows in
    let two = length-row_count (with_row (store.counter + 1, new) store.rows) in
    let more = count-new (λ k. true) (store.counter + 1, new) store.rows none in
    let three = filter-row_count (is_of_kind kind.Block) store.rows in
    let four = filter-row_count (is_of_kind kind.Block) (with_row (store.counter + 1, new) store.rows) in
    let also = count-new (is_of_kind kind.Block) (store.counter + 1, new) store.rows none in
    let added : cond {A = ℕ} (is_of_kind kind.Block (key_of new)) 1 0 ≡ 0 = ap (λ (c : Bool). cond {A = ℕ} c 1 0) other in
    let a = h.revisions_left in
    let b = h.rows_left in
    let c = h.blocks_left in
    record { revisions_left = omega arith; rows_left = omega arith; blocks_left = omega arith }

-- a new block
pub enough-block : (revisions rows blocks : ℕ) (store : Datastore) (new : Record) → Enough (suc revisions) (suc rows) (suc blocks) store → row_of (key_of new) store.rows ≡ None → Enough revisions rows blocks (put_in store new)
enough-block revisions rows blocks store new h none =
    let one = length-row_count store.rows in
    let two = length-row_count (with_row (store.counter + 1, new) store.rows) in
    let more = count-new (λ k. true) (store.counter + 1, new) store.rows none in
    let three = filter-row_count (is_of_kind kind.Block) store.rows in
    let four = filter-row_count (is_of_kind kind.Block) (with_row (store.counter + 1, new) store.rows) in
    let also = count-new (is_of_kind kind.Block) (store.counter + 1, new) store.rows none in
    let most = at-most (is_of_kind kind.Block (key_of new)) in
    let a = h.revisions_left in
    let b = h.rows_left in
    let c = h.blocks_left in
    record { revisions_left = omega arith; rows_left = omega arith; blocks_left = omega arith }
  where
    at-most : (b : Bool) → cond {A = ℕ} b 1 0 ≤ 1
    at-most true = omega arith
    at-most false = omega arith

-- a record of a kind other than a block's, there or not
pub enough-other : (revisions rows blocks : ℕ) (store : Datastore) (new : Record) → Enough (suc revisions) (suc rows) blocks store → IsSorted store.rows → is_of_kind kind.Block (key_of new) ≡ false → Enough revisions rows blocks (put_in store new)
enough-other revisions rows blocks store new h sorted other = by (row_of (key_of new) store.rows) refl
  where
    by : (o : Option StoredRecord) → row_of (key_of new) store.rows ≡ o → Enough revisions rows blocks (put_in store new)
    by None e = enough-new revisions rows blocks store new h e other
    by (Some old) e = enough-less revisions rows blocks revisions (suc rows) blocks (put_in store new) (omega arith) (omega arith) (omega arith) (enough-there revisions (suc rows) blocks store new old h sorted e)
