-- The tests that each row passes or fails by itself, with the other rows looked up.
use Rattle.std.specs.Prelude.{ℕ, Bool, true, false, not, ◌&&◌, ◌||◌, ◌==◌, nat_lt, nat_le, List, [], Option, Some, None, is_none, option_map, Result, Ok, Err, if◌then◌else◌}
use Rattle.std.specs.List.{list_any}
use Rattle.ipam_addr.specs.Shape.{CidrValue}
use Rattle.ipam_block.specs.declared.state.State.{State}
use Rattle.ipam_block.specs.declared.state.State.TheVariants.{Confirmed}
use Rattle.ipam_pool.specs.declared.pools.Pool.{Pool}
use Rattle.ipam_pool.specs.Slots.{is_slot_of}
use Rattle.ipam_records.specs.declared.call.Row.{Row as RowText}
use Rattle.ipam_records.specs.declared.fault.TextFault.{TextFault}
use Rattle.ipam_records.specs.declared.fault.TextFault.TheVariants as fault
use Rattle.ipam_records.specs.declared.key.Key.{Key}
use Rattle.ipam_records.specs.declared.key.Key.TheVariants as key
use Rattle.ipam_records.specs.declared.record.Record.{Record}
use Rattle.ipam_records.specs.declared.record.Record.TheVariants as record_of
use Rattle.ipam_records.specs.Datastore.{last_revision, row_of}
use Rattle.ipam_records.specs.Key.{key_of}
use Rattle.ipam_records.specs.KeyOrder.{keys_equal}
use Rattle.ipam_records.specs.KeyText.{key_read}
use Rattle.ipam_model.specs.Opened.{Texts, cidr_of_key, readable, reading_of}
use Rattle.ipam_model.specs.Reads.{StoredRecord}
use Rattle.ipam_opening.specs.declared.rule.Rule.{Rule}
use Rattle.ipam_opening.specs.declared.rule.Rule.TheVariants as rule
use Rattle.ipam_records.specs.BlockLists.{is_node}
pub use Rattle.ipam_block.specs.State.{is_confirmed}

abbrev pub number_of : Rule → ℕ
number_of rule.Form = 1
number_of rule.Key = 2
number_of rule.Table = 3
number_of rule.Slot = 4
number_of rule.Block = 5
number_of rule.Count = 6
number_of rule.Node = 7
number_of rule.Confirmed = 8
number_of rule.Limits = 9
number_of rule.Revision = 10

-- ---- by what was read of the row

abbrev pub is_fault : TextFault → TextFault → Bool
is_fault fault.Form fault.Form = true
is_fault fault.Key fault.Key = true
is_fault fault.Table fault.Table = true
is_fault fault.Unsound fault.Unsound = true
is_fault fault.Memory fault.Memory = true
is_fault one other = false

abbrev pub has_fault : TextFault → Result Record TextFault → Bool
has_fault which (Ok found) = false
has_fault which (Err broken) = is_fault which broken

-- a block that is not sound, or whose sequence number is not below its revision
abbrev pub is_broken_block : ℕ → Result Record TextFault → Bool
is_broken_block revision (Ok (record_of.Block b)) = nat_le revision b.sequence
is_broken_block revision (Ok _) = false
is_broken_block revision (Err broken) = is_fault fault.Unsound broken

-- a CIDR that is no slot of any of the pools
abbrev pub is_outside : List Pool → Option CidrValue → Bool
is_outside pools None = false
is_outside pools (Some cidr) = not (list_any (λ p. is_slot_of p cidr) pools)

-- the record of the key among the rows
abbrev pub found_in : Key → List StoredRecord → Option Record
found_in key rows = option_map (λ row. row.1) (row_of key rows)

-- the record that was read, if it has the key
abbrev pub if_key : Key → Result Record TextFault → Option Record
if_key key (Ok found) = if keys_equal (key_of found) key then Some found else None
if_key key (Err broken) = None

-- the pools, none where their record was not found
abbrev pub pools_found : Option Record → List Pool
pools_found (Some (record_of.Pools pools)) = pools
pools_found _ = []

-- a node whose affinity for the block has no row
abbrev pub lacks_affinity : List StoredRecord → CidrValue → Option (List ℕ) → Bool
lacks_affinity rows cidr None = false
lacks_affinity rows cidr (Some node) = is_none (found_in (key.Affinity node cidr) rows)

abbrev pub is_block_alone : List StoredRecord → Result Record TextFault → Bool
is_block_alone rows (Ok (record_of.Block b)) = lacks_affinity rows b.cidr b.node
is_block_alone rows _ = false

-- what was found is a block with this node
abbrev pub is_block_with : List ℕ → Option Record → Bool
is_block_with node (Some (record_of.Block b)) = is_node node b.node
is_block_with node _ = false

abbrev pub is_affinity_alone : List StoredRecord → Result Record TextFault → Bool
is_affinity_alone rows (Ok (record_of.Affinity a)) =
    is_confirmed a.state && not (is_block_with a.node (found_in (key.Block a.cidr) rows))
is_affinity_alone rows _ = false

abbrev pub is_no_revision : ℕ → ℕ → Bool
is_no_revision counter revision = revision == 0 || (nat_lt counter revision || nat_lt last_revision revision)

-- whether the row breaks the rule by itself; the rules of counts and of limits are broken
-- by no single row
abbrev pub breaks : Rule → Texts → RowText → Bool
breaks rule.Form texts row = has_fault fault.Form (reading_of row)
breaks rule.Key texts row = has_fault fault.Key (reading_of row)
breaks rule.Table texts row = has_fault fault.Table (reading_of row)
breaks rule.Slot texts row = is_outside (pools_found (found_in key.Pools (readable texts.rows))) (cidr_of_key (key_read row.key))
breaks rule.Block texts row = is_broken_block row.revision (reading_of row)
breaks rule.Count texts row = false
breaks rule.Node texts row = is_block_alone (readable texts.rows) (reading_of row)
breaks rule.Confirmed texts row = is_affinity_alone (readable texts.rows) (reading_of row)
breaks rule.Limits texts row = false
breaks rule.Revision texts row = is_no_revision texts.counter row.revision
