-- What the store has once a row was loaded.
use Rattle.std.specs.Prelude.{ℕ, Result, Ok, Err}
use Rattle.ipam_records.specs.declared.fault.TextFault.{TextFault}
use Rattle.ipam_records.specs.declared.record.Record.{Record}
use Rattle.ipam_records.specs.Datastore.{Datastore, with_row}

abbrev pub with_reading : (revision : ℕ) → Result Record TextFault → Datastore → Datastore
with_reading revision (Ok found) store = record store { rows = with_row (revision, found) store.rows }
with_reading revision (Err broken) store = store
