-- The report of a datastore.
use Rattle.std.specs.Prelude.{ℕ, Bool, true, false, not, ◌&&◌, nat_lt, List, [], length, Option, Some, None, if◌then◌else◌}
use Rattle.std.specs.List.{filter_map, flat_map}
use Rattle.ipam_addr.specs.Shape.{CidrValue}
use Rattle.ipam_block.specs.declared.state.State.{State}
use Rattle.ipam_block.specs.declared.state.State.TheVariants.{Pending, PendingDeletion}
use Rattle.ipam_records.specs.declared.key.Key.TheVariants as key
use Rattle.ipam_records.specs.declared.key.Kind.TheVariants as kind
use Rattle.ipam_records.specs.declared.record.Record.{Record}
use Rattle.ipam_records.specs.declared.record.Record.TheVariants as record_of
use Rattle.ipam_records.specs.BlockLists.{is_node}
use Rattle.ipam_records.specs.Datastore.{Datastore, rows_of_kind, row_of}
use Rattle.ipam_model.specs.CountLaw.{held_count}
use Rattle.ipam_model.specs.Owners.{owners}
use Rattle.ipam_model.specs.Reads.{StoredRecord}
use Rattle.ipam_commands.specs.declared.audit_report.Excess.{Excess}
use Rattle.ipam_commands.specs.declared.audit_report.Report.{Report}

-- a handle's count of a block, where it is above what the handle owns there
abbrev pub excess_at : Datastore → (handle : List ℕ) → CidrValue × ℕ → Option Excess
excess_at store handle (cidr, count) =
    if nat_lt (held_count store handle cidr) count
    then Some (record { handle = handle; cidr = cidr; count = count; owned = held_count store handle cidr })
    else None

abbrev pub excess_of : Datastore → Record → List Excess
excess_of store (record_of.Handle h) = filter_map (excess_at store h.id) h.counts
excess_of store _ = []

-- the counts of the rows that are too high, by the handle's id and then by the block
abbrev pub excess_in : Datastore → List StoredRecord → List Excess
excess_in store = flat_map (λ row. excess_of store row.1)

abbrev pub is_pending : State → Bool
is_pending Pending = true
is_pending _ = false

abbrev pub is_pending_deletion : State → Bool
is_pending_deletion PendingDeletion = true
is_pending_deletion _ = false

-- an affinity that is pending deletion
abbrev pub stale_of : Record → Option (List ℕ × CidrValue)
stale_of (record_of.Affinity a) = if is_pending_deletion a.state then Some (a.node, a.cidr) else None
stale_of _ = None

abbrev pub stale_in : List StoredRecord → List (List ℕ × CidrValue)
stale_in = filter_map (λ row. stale_of row.1)

-- whether the row is a block's with this node
abbrev pub has_node_in_row : List ℕ → Option StoredRecord → Bool
has_node_in_row node (Some (revision, record_of.Block b)) = is_node node b.node
has_node_in_row node _ = false

abbrev pub has_node : Datastore → List ℕ → CidrValue → Bool
has_node store node cidr = has_node_in_row node (row_of (key.Block cidr) store.rows)

-- a pending affinity whose block is missing or has not its node
abbrev pub stray_of : Datastore → Record → Option (List ℕ × CidrValue)
stray_of store (record_of.Affinity a) =
    if is_pending a.state && not (has_node store a.node a.cidr) then Some (a.node, a.cidr) else None
stray_of store _ = None

abbrev pub stray_in : Datastore → List StoredRecord → List (List ℕ × CidrValue)
stray_in store = filter_map (λ row. stray_of store row.1)

abbrev pub report_of : Datastore → Report
report_of store = record {
  excess = excess_in store store.rows;
  stale = stale_in store.rows;
  stray = stray_in store store.rows;
  blocks = length (rows_of_kind kind.Block store);
  owners = length (owners store);
  handles = length (rows_of_kind kind.Handle store);
}
