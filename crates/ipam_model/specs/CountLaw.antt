-- A handle's count of a block covers the addresses that it owns there.
use Rattle.std.specs.Prelude.{ℕ, ◌+◌, ◌≤◌, ◌&&◌, List, Option, Some, None, bytes_eq, if◌then◌else◌}
use Rattle.std.specs.List.{range_with_len, sum_by, count_by}
use Rattle.ipam_addr.specs.Shape.{CidrValue}
use Rattle.ipam_block.specs.Operations.{is_owned}
use Rattle.ipam_block.specs.HandleOperations.{count_of}
use Rattle.ipam_records.specs.declared.key.Key.TheVariants as key
use Rattle.ipam_records.specs.declared.record.Record.TheVariants as record_of
use Rattle.ipam_records.specs.Datastore.{Datastore, row_of}
use Rattle.ipam_records.specs.Label.{Credit}
use Rattle.ipam_records.specs.Sound.{IsDatastore}
use Rattle.ipam_records.specs.Word.{label_of}
use Rattle.ipam_model.specs.declared.entry.Entry.{Entry}
use Rattle.ipam_model.specs.Cluster.{RunningRequest, Slots}
use Rattle.ipam_model.specs.Course.{slot_count}
use Rattle.ipam_model.specs.History.{Base, Lawful, cluster_at, store_at}
use Rattle.ipam_model.specs.Reads.{StoredRecord}
use Rattle.ipam_model.specs.Usable.{is_same_cidr}

abbrev pub count_in_row : List ℕ → CidrValue → Option StoredRecord → ℕ
count_in_row id cidr (Some (revision, record_of.Handle h)) = count_of h cidr
count_in_row id cidr _ = 0

-- the count of the block in the handle of this id, 0 where there is none
abbrev pub handle_count : Datastore → List ℕ → CidrValue → ℕ
handle_count store id cidr = count_in_row id cidr (row_of (key.Handle id) store.rows)

abbrev pub held_in_row : List ℕ → Option StoredRecord → ℕ
held_in_row id (Some (revision, record_of.Block b)) = count_by (is_owned id) b.allocations
held_in_row id _ = 0

-- how many addresses of the block the handle owns
abbrev pub held_count : Datastore → List ℕ → CidrValue → ℕ
held_count store id cidr = held_in_row id (row_of (key.Block cidr) store.rows)

-- ---- credits

abbrev pub amount_for : List ℕ → CidrValue → Option Credit → ℕ
amount_for id cidr None = 0
amount_for id cidr (Some credit) =
    if bytes_eq credit.handle id && is_same_cidr credit.block cidr then credit.amount else 0

-- how far the count is ahead on account of the slot's request
abbrev pub credit_of_slot : List ℕ → CidrValue → Option RunningRequest → ℕ
credit_of_slot id cidr None = 0
credit_of_slot id cidr (Some running) = amount_for id cidr (label_of running.word).credit

abbrev pub credits : List ℕ → CidrValue → Slots → ℕ
credits id cidr slots = sum_by (λ slot. credit_of_slot id cidr (slots slot)) (range_with_len 0 slot_count)

-- ---- the law

-- the counts of the store cover its owners
abbrev pub IsCovered : Datastore → Type 0
IsCovered store = (id : List ℕ) (cidr : CidrValue) → held_count store id cidr ≤ handle_count store id cidr

abbrev pub CountLaw : Type 0
CountLaw =
    (base : Base) (history : List Entry) → IsDatastore base.store → IsCovered base.store → Lawful base history
    → IsCovered (store_at base history)

-- The counts of a store also cover its owners with what the running requests are ahead
-- by.
abbrev pub CreditLaw : Type 0
CreditLaw =
    (base : Base) (history : List Entry) → IsDatastore base.store → IsCovered base.store → Lawful base history
    → (id : List ℕ) (cidr : CidrValue)
    → held_count (store_at base history) id cidr + credits id cidr (cluster_at base history).slots
    ≤ handle_count (store_at base history) id cidr
