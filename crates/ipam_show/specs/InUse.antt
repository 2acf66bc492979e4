-- The addresses in use.
use Rattle.std.specs.Prelude.{ℕ, Bool, true, ◌&&◌, List, [], Option, Some, None, bytes_eq, codes, if◌then◌else◌}
use Rattle.std.specs.List.{filter_map, flat_map}
use Rattle.ipam_addr.specs.Holding.{holds_address}
use Rattle.ipam_addr.specs.Shape.{AddrValue}
use Rattle.ipam_block.specs.declared.allocation.Allocation.{Allocation}
use Rattle.ipam_block.specs.Operations.{ordinal_address}
use Rattle.ipam_block.specs.Shape.{BlockValue}
use Rattle.ipam_records.specs.declared.record.Record.{Record}
use Rattle.ipam_records.specs.declared.record.Record.TheVariants as record_of
use Rattle.ipam_records.specs.BlockLists.{is_node}
use Rattle.ipam_records.specs.Datastore.{Datastore}
use Rattle.ipam_model.specs.Pairs.{value_of}
use Rattle.ipam_model.specs.Reads.{StoredRecord}
use Rattle.ipam_words.specs.Views.{AskedChoice, All, Within, OfNode, OfHandle, Borrowed, BorrowedBy}
use Rattle.ipam_show.specs.declared.in_use.InUse.{InUse}
use Rattle.ipam_show.specs.Counts.{borrows}
use Rattle.ipam_show.specs.Kept.{blocks_kept}

-- ---- which are shown

abbrev pub is_recorded_with : (node : List ℕ) → Allocation → Bool
is_recorded_with node a = is_node node (value_of (codes "node") a.attributes.secondary)

abbrev pub is_chosen : AskedChoice → AddrValue → BlockValue → Allocation → Bool
is_chosen All address b a = true
is_chosen (Within cidr) address b a = holds_address cidr address
is_chosen (OfNode node) address b a = is_recorded_with node a
is_chosen (OfHandle handle) address b a = bytes_eq a.attributes.handle handle
is_chosen Borrowed address b a = borrows b.node a
is_chosen (BorrowedBy node) address b a = is_recorded_with node a && borrows b.node a

-- the address of the allocation, where it is chosen
abbrev pub use_at : AskedChoice → AddrValue → BlockValue → Allocation → Option InUse
use_at chosen address b a =
    if is_chosen chosen address b a
    then Some (record { address = address; block = b.cidr; block_node = b.node; attributes = a.attributes })
    else None

abbrev pub use_of : AskedChoice → BlockValue → Allocation → Option InUse
use_of chosen b a = use_at chosen (ordinal_address b.cidr a.ordinal) b a

-- the addresses in use of a block, by their ordinals
abbrev pub uses_of_block : AskedChoice → BlockValue → List InUse
uses_of_block chosen b = filter_map (use_of chosen b) b.allocations

abbrev pub uses_of_record : AskedChoice → Record → List InUse
uses_of_record chosen (record_of.Block b) = uses_of_block chosen b
uses_of_record chosen _ = []

abbrev pub uses_in : AskedChoice → List StoredRecord → List InUse
uses_in chosen = flat_map (λ row. uses_of_record chosen row.1)

-- The addresses in use that are chosen. They stand in their order, since the blocks do and no two share one.
abbrev pub uses_kept : AskedChoice → Datastore → List InUse
uses_kept chosen store = uses_in chosen (blocks_kept store)

-- ---- what an address is recorded with

abbrev pub value_in_use : (key : List ℕ) → InUse → Option (List ℕ)
value_in_use key u = value_of key u.attributes.secondary
