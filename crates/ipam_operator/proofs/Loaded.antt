-- What comes of a row that is loaded.
use Rattle.std.proofs.Common.{◌≡◌, ℕ, true, Option, Some, None, IsSome, refl}
use Rattle.ipam_records.specs.declared.record.Record.{Record}
use Rattle.ipam_records.specs.Datastore.{Datastore, row_of, with_row}
use Rattle.ipam_records.specs.Key.{key_of}
use Rattle.ipam_operator.specs.Datastore.{may_load, with_record}

none_told : {A : Type 0} (o : Option A) → (IsSome o → ⊥) → o ≡ None
none_told None h = refl
none_told (Some x) h = absurd (h refl)

pub none_there : (found : Record) (store : Datastore) → (IsSome (row_of (key_of found) store.rows) → ⊥) → row_of (key_of found) store.rows ≡ None
none_there found store h = none_told (row_of (key_of found) store.rows) h

pub with_place : (revision : ℕ) (found : Record) (store : Datastore) → may_load revision found store ≡ true → row_of (key_of found) store.rows ≡ None
    → Some (record store { rows = with_row (revision, found) store.rows }) ≡ with_record revision found store
with_place revision found store may none = rw (may, none) refl

pub with_other : (revision : ℕ) (found : Record) (store : Datastore) → may_load revision found store ≡ true → IsSome (row_of (key_of found) store.rows)
    → None ≡ with_record revision found store
with_other revision found store may there = by (row_of (key_of found) store.rows) refl there
  where
    by : (o : Option (ℕ × Record)) → row_of (key_of found) store.rows ≡ o → IsSome o → None ≡ with_record revision found store
    by None is h = absurd (cc h)
    by (Some other) is h = rw (may, is) refl
