-- The datastore that has given rows. What holds of several rows at once is not asked of them.
use Rattle.std.specs.Prelude.{ℕ, ◌&&◌, Bool, true, nat_le, nat_lt, List, [], ◌∷◌, Option, Some, None, is_none, Result, Ok, Err}
use Rattle.ipam_json.specs.Members.{◌>>=◌, only_if}
use Rattle.ipam_records.specs.declared.call.Row.{Row}
use Rattle.ipam_records.specs.declared.fault.TextFault.{TextFault}
use Rattle.ipam_records.specs.declared.record.Record.{Record}
use Rattle.ipam_records.specs.declared.record.Record.TheVariants as record_of
use Rattle.ipam_records.specs.Datastore.{Datastore, has_room, last_revision, row_of, with_row}
use Rattle.ipam_records.specs.Key.{key_of}
use Rattle.ipam_records.specs.RecordReading.{record_reading}

-- a block is written less often than the datastore
abbrev pub is_counted : ℕ → Record → Bool
is_counted revision (record_of.Block block) = nat_lt block.sequence revision
is_counted revision _ = true

-- the record may have this revision
abbrev pub is_row : ℕ → Record → Bool
is_row revision found = nat_lt 0 revision && (nat_le revision last_revision && is_counted revision found)

-- the record may have this revision, and there is room for it
abbrev pub may_load : ℕ → Record → Datastore → Bool
may_load revision found store = is_row revision found && has_room store (key_of found)

-- the datastore with this record too, where none with its key is there
abbrev pub with_record : ℕ → Record → Datastore → Option Datastore
with_record revision found store =
    only_if (may_load revision found store && is_none (row_of (key_of found) store.rows))
    (record store { rows = with_row (revision, found) store.rows })

abbrev pub with_reading : ℕ → Result Record TextFault → Datastore → Option Datastore
with_reading revision (Ok found) store = with_record revision found store
with_reading revision (Err broken) store = None

-- the datastore with this row's record too, where it can be read and none with its key is
-- there
unfoldable pub with_text : Row → Datastore → Option Datastore
with_text row store = with_reading row.revision (record_reading row.key row.body) store

abbrev pub with_texts : List Row → Datastore → Option Datastore
with_texts [] store = Some store
with_texts (row ∷ rows) store = do
  more ← with_text row store
  with_texts rows more

-- no revision is above the counter
abbrev pub empty : Datastore
empty = record { rows = []; counter = last_revision }

abbrev pub datastore_of : List Row → Option Datastore
datastore_of rows = with_texts rows empty
