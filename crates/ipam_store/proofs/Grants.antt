-- What is known of a write that was granted, and of what it makes of the datastore.
use Rattle.std.proofs.Common.{◌≡◌, ℕ, ◌+◌, ◌<◌, Some, ap, ◌∙◌, arith}
use Rattle.ipam_records.specs.declared.call.Call.{Call}
use Rattle.ipam_records.specs.declared.call.Write.{Write}
use Rattle.ipam_records.specs.declared.call.Write.TheVariants.{Put, Remove}
use Rattle.ipam_records.specs.Said.{Can}
use Rattle.ipam_records.specs.Sound.{IsDatastore, IsRow}
use Rattle.ipam_records.specs.Datastore.{Datastore, reply_of, write_of, write_granted, written, last_revision}
use Rattle.ipam_store.specs.Granted.{IsGranted, IsSoundWrite}
use Rattle.ipam_store.specs.Places.{Ascend}
use Rattle.ipam_records.proofs.RowWrites.{All-with_row, All-without_row}
use Rattle.ipam_store.proofs.Keeping.{Ascend-with_row, Ascend-without_row}
use Rattle.ipam_store.proofs.Granting.{facts-from_granted}
use Rattle.ipam_store.proofs.Kept.{later_rows}

-- the write that a call asks for may be applied, once it was said that it can
pub IsGranted-can : (store : Datastore) (call : Call) (revision : ℕ) (write : Write)
    → reply_of store call ≡ Can revision → write_of call revision ≡ Some write → IsGranted store write
IsGranted-can store call revision write answered asked =
    record { call = call; is = ap (write_granted call) answered ∙ asked }

-- a sound write that was granted keeps the datastore sound
pub IsDatastore-written : (store : Datastore) (write : Write)
    → IsDatastore store → IsGranted store write → IsSoundWrite write → IsDatastore (written store write)
IsDatastore-written store (Put revision new) kept granted sound =
    let facts = facts-from_granted store (Put revision new) granted in
    let is : revision ≡ store.counter + 1 = facts.next.is in
    let below : store.counter < last_revision = facts.next.below in
    let row : IsRow revision (revision, new) = record { is_record = sound.0; some = omega arith; given = omega arith; counted = sound.1 } in
    let ordered : Ascend store.rows = record { keys = kept.ascending } in
    record {
      rows = All-with_row (IsRow revision) (revision, new) store.rows row (later_rows store.counter revision (omega arith) store.rows kept.rows);
      ascending = (Ascend-with_row (revision, new) store.rows ordered).keys;
      counted = omega arith;
    }
IsDatastore-written store (Remove revision key) kept granted sound =
    let facts = facts-from_granted store (Remove revision key) granted in
    let is : revision ≡ store.counter + 1 = facts.next.is in
    let below : store.counter < last_revision = facts.next.below in
    let ordered : Ascend store.rows = record { keys = kept.ascending } in
    record {
      rows = All-without_row (IsRow revision) key store.rows (later_rows store.counter revision (omega arith) store.rows kept.rows);
      ascending = (Ascend-without_row key store.rows ordered).keys;
      counted = omega arith;
    }
