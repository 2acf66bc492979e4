-- What a procedure knows of what it is told.
use native.Mathlib.Omega.{arith}
use Rattle.std.proofs.Common.{cond, ◌≡◌, ℕ, ◌<◌, ◌≤◌, ◌^◌, Bool, true, false, List, [], ◌∷◌, Option, Some, None, All, IfSome, find}
use Rattle.std.proofs.lemmas.List.Elements.{All-head, All-tail}
use Rattle.ipam_records.specs.declared.key.Key.{Key}
use Rattle.ipam_records.specs.declared.call.Call.TheVariants.{Get}
use Rattle.ipam_records.specs.declared.record.Record.{Record}
use Rattle.ipam_records.specs.declared.record.Record.TheVariants as record_of
use Rattle.ipam_records.specs.Datastore.{reply_to_get, row_of, last_revision}
use Rattle.ipam_records.specs.Hearing.{CanBeSaid}
use Rattle.ipam_records.specs.Said.{Said, Found}
use Rattle.ipam_records.specs.Sound.{IsRow}
use Rattle.ipam_model.specs.Reads.{block_said, StoredRecord}

holds_of_found : (P : StoredRecord → Type 0) (test : StoredRecord → Bool) (rows : List StoredRecord) → All P rows → IfSome (find test rows) P
holds_of_found P test [] all = tt
holds_of_found P test (row ∷ rows) all = elim (test row) as (λ b. IfSome (cond b (Some row) (find test rows)) P) [
  | true ↦ All-head P row rows all
  | false ↦ holds_of_found P test rows (All-tail P row rows all)
]

row_told : (P : StoredRecord → Type 0) (found : Option StoredRecord) (revision : ℕ) (r : Record)
    → IfSome found P → reply_to_get found ≡ Found revision r → P (revision, r)
row_told P None revision r holds told = grind arith
row_told P (Some row) revision r holds told = grind arith

-- what is found is a row of a sound datastore
pub found_row : (key : Key) (revision : ℕ) (r : Record) (can : CanBeSaid (Get key) (Found revision r))
    → IsRow can.store.counter (revision, r)
found_row key revision r can =
    row_told (IsRow can.store.counter) (row_of key can.store.rows) revision r
    (holds_of_found (IsRow can.store.counter) _ can.store.rows can.sound.rows) can.is_reply

below_last : {sequence revision counter : ℕ} → sequence < revision → revision ≤ counter → counter ≤ last_revision
    → sequence < 2 ^ 62
below_last below given last = omega arith

-- a block that is found can be written once more
pub found_block_counted : (key : Key) (said : Said) → CanBeSaid (Get key) said
    → IfSome (block_said said) (λ found. found.1.sequence < 2 ^ 62)
found_block_counted key (Found revision (record_of.Block b)) can =
    let row = found_row key revision (record_of.Block b) can in
    below_last row.counted row.given can.sound.counted
found_block_counted key _ can = tt
