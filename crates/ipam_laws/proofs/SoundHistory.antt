-- Over every history the records stay sound and within the limits.
use Rattle.std.proofs.Common.{◌≡◌, ℕ, ◌+◌, ◌<◌, ◌≤◌, inl, inr, Bool, true, false, cond, List, [], ◌∷◌, length, Some, None, refl, sym, ap, subst, arith, ltb-true}
use Rattle.std.specs.Prelude.{All, ◌&&◌, ◌||◌, not, nat_lt}
use Rattle.ipam_records.specs.declared.call.Write.TheVariants.{Put, Remove}
use Rattle.ipam_records.specs.declared.key.Key.{Key}
use Rattle.ipam_records.specs.declared.key.Kind.TheVariants as kind
use Rattle.ipam_records.specs.declared.record.Record.{Record}
use Rattle.ipam_records.specs.Datastore.{Datastore, has_room, last_revision, rows_of_kind, most_rows, most_blocks, row_of, with_row, without_row, written}
use Rattle.ipam_records.specs.Key.{key_of}
use Rattle.ipam_records.specs.KeyOrder.{is_of_kind}
use Rattle.ipam_records.specs.Sound.{IsDatastore, IsRecord, IsRow}
use Rattle.ipam_model.specs.declared.entry.Entry.{Entry}
use Rattle.ipam_model.specs.Consistent.{IsWithinLimits, SoundLaw, LimitsLaw}
use Rattle.ipam_model.specs.History.{Base, Lawful, cluster_at, store_at, slot_of_entry}
use Rattle.ipam_model.specs.Reads.{StoredRecord}
use Rattle.ipam_records.proofs.RowWrites.{All-with_row, All-without_row, sorted-with_row, sorted-without_row}
use Rattle.ipam_laws.proofs.RowOrder.{length-row_count, filter-row_count, row_count, count-new, count-there, count-without}
use Rattle.ipam_laws.proofs.StoreSteps.{StoreStep, Stays, Puts, Removes, store-step}
use Rattle.ipam_laws.proofs.SlotSteps.{known_at, label_at, turn-of}
use Rattle.ipam_laws.proofs.SoundBlocks.{IsSoundKnown}
use Rattle.ipam_laws.proofs.SoundSteps as sound_step
use Rattle.ipam_laws.proofs.SoundSteps.{IsSoundPut, SoundStep, step-sound, row-there}

-- ---- one write

-- a store that was written had a revision left
written-left : (store next : Datastore) → StoreStep store next → next.counter ≡ store.counter + 1 → store.counter < last_revision
written-left store next (Stays e) more = let same = ap (λ (s : Datastore). s.counter) e in absurd (omega arith)
written-left store next (Puts new e left place) more = left
written-left store next (Removes gone e left) more = left

-- rows are as sound at a later counter
rows-later : (store : Datastore) → IsDatastore store → All (IsRow (store.counter + 1)) store.rows
rows-later store h k d within =
    let row = h.rows k d within in
    let given = row.given in
    record { is_record = row.is_record; some = row.some; given = omega arith; counted = row.counted }

put-datastore : (store : Datastore) (new : Record) → store.counter < last_revision → IsSoundPut store new → IsDatastore store → IsDatastore (written store (Put (store.counter + 1) new))
put-datastore store new left put h = record {
  rows = All-with_row (IsRow (store.counter + 1)) (store.counter + 1, new) store.rows (record { is_record = put.sound; some = omega arith; given = omega arith; counted = put.counted }) (rows-later store h);
  ascending = sorted-with_row (store.counter + 1, new) store.rows h.ascending;
  counted = omega arith;
}

remove-datastore : (store : Datastore) (gone : Key) → store.counter < last_revision → IsDatastore store → IsDatastore (written store (Remove (store.counter + 1) gone))
remove-datastore store gone left h = record {
  rows = All-without_row (IsRow (store.counter + 1)) gone store.rows (rows-later store h);
  ascending = sorted-without_row gone store.rows h.ascending;
  counted = omega arith;
}

pub next-datastore : (store next : Datastore) → StoreStep store next → SoundStep store next → IsDatastore store → IsDatastore next
next-datastore store next step (sound_step.Nothing e) h = subst (λ (s : Datastore). IsDatastore s) (sym e) h
next-datastore store next step (sound_step.Puts new e put) h =
    subst (λ (s : Datastore). IsDatastore s) (sym e) (put-datastore store new (written-left store next step (ap (λ (s : Datastore). s.counter) e)) put h)
next-datastore store next step (sound_step.Removes gone e) h =
    subst (λ (s : Datastore). IsDatastore s) (sym e) (remove-datastore store gone (written-left store next step (ap (λ (s : Datastore). s.counter) e)) h)

-- ---- every history

pub record IsSoundAt (base : Base) (history : List Entry) : Type 0 where
  pub datastore : IsDatastore (store_at base history)
  pub known : IsSoundKnown (known_at base history)

first-sound : (base : Base) → IsDatastore base.store → IsSoundKnown (known_at base [])
unfolding known_at
first-sound base sound = record { sound = λ k revision found there. (row-there base.store k revision found sound there).is_record }

next-known : (base : Base) (history : List Entry) (new : Entry) → IsSoundAt base history → IsDatastore (store_at base (new ∷ history)) → IsSoundKnown (known_at base (new ∷ history))
unfolding known_at
next-known base history new h next = record { sound = λ k revision found known. by k revision found known }
  where
    by : (k : Key) (revision : ℕ) (found : Record) → known_at base (new ∷ history) k revision found → IsRecord found
    by k revision found (inl was) = h.known.sound k revision found was
    by k revision found (inr (inl there)) = (row-there (store_at base history) k revision found h.datastore there).is_record
    by k revision found (inr (inr there)) = (row-there (store_at base (new ∷ history)) k revision found next there).is_record

pub history-sound : (base : Base) (history : List Entry) → IsDatastore base.store → Lawful base history → IsSoundAt base history
unfolding Lawful cluster_at
history-sound base [] sound h = record { datastore = sound; known = first-sound base sound }
history-sound base (new ∷ history) sound h =
    let earlier = history-sound base history sound h.0 in
    let turn = turn-of base history new sound h in
    let step = step-sound (known_at base history) (store_at base history) (store_at base (new ∷ history)) (label_at base history (slot_of_entry new)) turn.reached turn.step earlier.known earlier.datastore in
    let next = next-datastore (store_at base history) (store_at base (new ∷ history)) (store-step base history new h) step earlier.datastore in
    record { datastore = next; known = next-known base history new earlier next }

pub sound_law : SoundLaw
sound_law base history sound h = (history-sound base history sound h).datastore

-- ---- limits

both-true : (a b : Bool) → a && b ≡ true → (a ≡ true) × (b ≡ true)
both-true true b e = (refl, e)
both-true false b e = absurd (cc e)

limits-new : (store : Datastore) (new : Record) → IsWithinLimits store → row_of (key_of new) store.rows ≡ None → has_room store (key_of new) ≡ true → IsWithinLimits (written store (Put (store.counter + 1) new))
limits-new store new h none room =
    let (rows_left, blocks_left) = both-true (nat_lt (length store.rows) most_rows) (not (is_of_kind kind.Block (key_of new)) || nat_lt (length (rows_of_kind kind.Block store)) most_blocks) room in
    let below = ltb-true (length store.rows) most_rows rows_left in
    let one = length-row_count store.rows in
    let two = length-row_count (with_row (store.counter + 1, new) store.rows) in
    let more = count-new (λ k. true) (store.counter + 1, new) store.rows none in
    record { few_rows = omega arith; few_blocks = blocks (is_of_kind kind.Block (key_of new)) refl blocks_left }
  where
    blocks : (b : Bool) → is_of_kind kind.Block (key_of new) ≡ b → not b || nat_lt (length (rows_of_kind kind.Block store)) most_blocks ≡ true → length (rows_of_kind kind.Block (written store (Put (store.counter + 1) new))) ≤ most_blocks
    blocks b is left =
        let one = filter-row_count (is_of_kind kind.Block) store.rows in
        let two = filter-row_count (is_of_kind kind.Block) (with_row (store.counter + 1, new) store.rows) in
        let more = count-new (is_of_kind kind.Block) (store.counter + 1, new) store.rows none in
        let added : cond {A = ℕ} (is_of_kind kind.Block (key_of new)) 1 0 ≡ cond {A = ℕ} b 1 0 = ap (λ (c : Bool). cond {A = ℕ} c 1 0) is in
        let few = h.few_blocks in
        by b left added one two more few
      where
        by : (b : Bool) → not b || nat_lt (length (rows_of_kind kind.Block store)) most_blocks ≡ true → cond {A = ℕ} (is_of_kind kind.Block (key_of new)) 1 0 ≡ cond {A = ℕ} b 1 0
            → length (rows_of_kind kind.Block store) ≡ row_count (is_of_kind kind.Block) store.rows
            → length (rows_of_kind kind.Block (written store (Put (store.counter + 1) new))) ≡ row_count (is_of_kind kind.Block) (with_row (store.counter + 1, new) store.rows)
            → row_count (is_of_kind kind.Block) (with_row (store.counter + 1, new) store.rows) ≡ row_count (is_of_kind kind.Block) store.rows + cond {A = ℕ} (is_of_kind kind.Block (key_of new)) 1 0
            → length (rows_of_kind kind.Block store) ≤ most_blocks → length (rows_of_kind kind.Block (written store (Put (store.counter + 1) new))) ≤ most_blocks
        by true left added one two more few = let below = ltb-true (length (rows_of_kind kind.Block store)) most_blocks left in omega arith
        by false left added one two more few = omega arith

limits-there : (store : Datastore) (new : Record) (old : StoredRecord) → IsDatastore store → IsWithinLimits store → row_of (key_of new) store.rows ≡ Some old → IsWithinLimits (written store (Put (store.counter + 1) new))
limits-there store new old sound h there =
    let one = length-row_count store.rows in
    let two = length-row_count (with_row (store.counter + 1, new) store.rows) in
    let same = count-there (λ k. true) (store.counter + 1, new) store.rows old sound.ascending there in
    let three = filter-row_count (is_of_kind kind.Block) store.rows in
    let four = filter-row_count (is_of_kind kind.Block) (with_row (store.counter + 1, new) store.rows) in
    let also = count-there (is_of_kind kind.Block) (store.counter + 1, new) store.rows old sound.ascending there in
    let rows = h.few_rows in
    let blocks = h.few_blocks in
    record { few_rows = omega arith; few_blocks = omega arith }

limits-gone : (store : Datastore) (gone : Key) → IsWithinLimits store → IsWithinLimits (written store (Remove (store.counter + 1) gone))
limits-gone store gone h =
    let one = length-row_count store.rows in
    let two = length-row_count (without_row gone store.rows) in
    let fewer = count-without (λ k. true) gone store.rows in
    let three = filter-row_count (is_of_kind kind.Block) store.rows in
    let four = filter-row_count (is_of_kind kind.Block) (without_row gone store.rows) in
    let also = count-without (is_of_kind kind.Block) gone store.rows in
    let rows = h.few_rows in
    let blocks = h.few_blocks in
    record { few_rows = omega arith; few_blocks = omega arith }

step-limits : (store next : Datastore) → StoreStep store next → IsDatastore store → IsWithinLimits store → IsWithinLimits next
step-limits store next (Stays e) sound h = subst (λ (s : Datastore). IsWithinLimits s) (sym e) h
step-limits store next (Puts new e left (inl (none, room))) sound h = subst (λ (s : Datastore). IsWithinLimits s) (sym e) (limits-new store new h none room)
step-limits store next (Puts new e left (inr (old, there))) sound h = subst (λ (s : Datastore). IsWithinLimits s) (sym e) (limits-there store new old sound h there)
step-limits store next (Removes gone e left) sound h = subst (λ (s : Datastore). IsWithinLimits s) (sym e) (limits-gone store gone h)

pub limits_law : LimitsLaw
unfolding Lawful cluster_at
limits_law base [] sound few h = few
limits_law base (new ∷ history) sound few h =
    step-limits (store_at base history) (store_at base (new ∷ history)) (store-step base history new h) (sound_law base history sound h.0) (limits_law base history sound few h.0)
