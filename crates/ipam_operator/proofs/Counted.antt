-- What is known of a row that is loaded, and how many blocks there are after it.
use Rattle.std.proofs.Common.{◌≡◌, ℕ, ◌+◌, ◌<◌, ◌≤◌, Bool, true, false, cond, length, nat_lt, nat_le, not, ◌&&◌, ◌||◌, None, refl, ap, arith}
use Rattle.std.proofs.lemmas.Bool.Decides.{nat_tests}
use Rattle.ipam_records.specs.declared.key.Kind.TheVariants as kind
use Rattle.ipam_records.specs.declared.record.Record.{Record}
use Rattle.ipam_records.specs.declared.record.Record.TheVariants as record_of
use Rattle.ipam_records.specs.Datastore.{Datastore, has_room, last_revision, most_blocks, most_rows, row_of, rows_of_kind, with_row}
use Rattle.ipam_records.specs.Key.{key_of}
use Rattle.ipam_records.specs.KeyOrder.{is_of_kind}
use Rattle.ipam_records.specs.Sound.{IsCountedBelow, IsRecord, IsRow}
use Rattle.ipam_store.specs.Granted.{HasRoomFor}
use Rattle.ipam_laws.proofs.RowOrder.{count-new, filter-row_count, row_count}
use Rattle.ipam_operator.specs.Datastore.{is_counted, is_row, may_load}

less_told : (n m : ℕ) → nat_lt n m ≡ true → n < m
less_told n m h = grind (arith, nat_tests)

most_told : (n m : ℕ) → nat_le n m ≡ true → n ≤ m
most_told n m h = grind (arith, nat_tests)

both_true : (a b : Bool) → (a && b) ≡ true → (a ≡ true) × (b ≡ true)
both_true true b h = (refl, h)
both_true false b h = cc h

then_true : (a b : Bool) → (not a || b) ≡ true → a ≡ true → b ≡ true
then_true true b h e = h
then_true false b h e = cc e

room_told : (store : Datastore) (found : Record) → has_room store (key_of found) ≡ true → HasRoomFor store found
room_told store found h =
    let parts = both_true (nat_lt (length store.rows) most_rows) (not (is_of_kind kind.Block (key_of found)) || nat_lt (length (rows_of_kind kind.Block store)) most_blocks) h in
    record {
      few = less_told (length store.rows) most_rows parts.0;
      few_blocks = λ is. less_told (length (rows_of_kind kind.Block store)) most_blocks (then_true (is_of_kind kind.Block (key_of found)) (nat_lt (length (rows_of_kind kind.Block store)) most_blocks) parts.1 is);
    }

counted_told : (revision : ℕ) (found : Record) → is_counted revision found ≡ true → IsCountedBelow revision found
counted_told revision (record_of.Config config) h = tt
counted_told revision (record_of.Pools pools) h = tt
counted_told revision (record_of.Reservations reservations) h = tt
counted_told revision (record_of.Block block) h = less_told block.sequence revision h
counted_told revision (record_of.Affinity affinity) h = tt
counted_told revision (record_of.Handle handle) h = tt

row_told : (revision : ℕ) (found : Record) → IsRecord found → is_row revision found ≡ true → IsRow last_revision (revision, found)
row_told revision found sound h =
    let first = both_true (nat_lt 0 revision) (nat_le revision last_revision && is_counted revision found) h in
    let more = both_true (nat_le revision last_revision) (is_counted revision found) first.1 in
    record {
      is_record = sound;
      some = less_told 0 revision first.0;
      given = most_told revision last_revision more.0;
      counted = counted_told revision found more.1;
    }

pub few_still : (store : Datastore) (revision : ℕ) (found : Record) → HasRoomFor store found → row_of (key_of found) store.rows ≡ None
    → length (rows_of_kind kind.Block store) ≤ most_blocks
    → length (rows_of_kind kind.Block (record store { rows = with_row (revision, found) store.rows })) ≤ most_blocks
few_still store revision found room none few =
    let one = filter-row_count (is_of_kind kind.Block) store.rows in
    let two = filter-row_count (is_of_kind kind.Block) (with_row (revision, found) store.rows) in
    let more = count-new (is_of_kind kind.Block) (revision, found) store.rows none in
    by (is_of_kind kind.Block (key_of found)) refl one two more
  where
    by : (b : Bool) → is_of_kind kind.Block (key_of found) ≡ b
        → length (rows_of_kind kind.Block store) ≡ row_count (is_of_kind kind.Block) store.rows
        → length (rows_of_kind kind.Block (record store { rows = with_row (revision, found) store.rows })) ≡ row_count (is_of_kind kind.Block) (with_row (revision, found) store.rows)
        → row_count (is_of_kind kind.Block) (with_row (revision, found) store.rows) ≡ row_count (is_of_kind kind.Block) store.rows + cond {A = ℕ} (is_of_kind kind.Block (key_of found)) 1 0
        → length (rows_of_kind kind.Block (record store { rows = with_row (revision, found) store.rows })) ≤ most_blocks
    by true is one two more =
        let below = room.few_blocks is in
        let added : cond {A = ℕ} (is_of_kind kind.Block (key_of found)) 1 0 ≡ 1 = ap (λ (c : Bool). cond {A = ℕ} c 1 0) is in
        omega arith
    by false is one two more =
        let added : cond {A = ℕ} (is_of_kind kind.Block (key_of found)) 1 0 ≡ 0 = ap (λ (c : Bool). cond {A = ℕ} c 1 0) is in
        omega arith

pub may_told : (revision : ℕ) (found : Record) (store : Datastore) → IsRecord found → may_load revision found store ≡ true
    → IsRow last_revision (revision, found) × HasRoomFor store found
may_told revision found store sound h =
    let parts = both_true (is_row revision found) (has_room store (key_of found)) h in
    (row_told revision found sound parts.0, room_told store found parts.1)
