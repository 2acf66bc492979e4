-- That a store may cross threads.
use mathlib.Core.List.{[], ◌∷◌}
use denote.Builtin.{u64}
use denote.Struct.Tuple.{Tuple}
use denote.Param.Send.{IsSend, sendable}
use Rattle.std.proofs.Crossing.{Vec-send}
use Rattle.std.specs.contracts.vec.Vec as Vec
use Rattle.std.specs.contracts.alloc.Global as Heap
use Rattle.std.specs.contracts.impls.GlobalAllocator.TheImpl.{ghosts}
use Rattle.ipam_records.specs.contracts.record.Record as Record
use Rattle.ipam_store.specs.contracts.pages.Pages as Pages
use Rattle.ipam_store.specs.contracts.nodes.NodeLists as NodeLists
use Rattle.ipam_store.specs.contracts.index.BlockIndex as BlockIndex
use Rattle.ipam_store.specs.contracts.blocks.Blocks as Blocks
use Rattle.ipam_store.specs.contracts.store.Store as Store
use Rattle.ipam_shared.proofs.SentRows.{pools_send, reservation_send, block_send, affinity_send, handle_send, pair_send, parts}

pub record_send : IsSend Record.the_row
record_send = search (pools_send, reservation_send, block_send, affinity_send, handle_send, parts) depth 20 fits 100000

numbered_send : IsSend (Tuple (u64 ∷ Record.the_row ∷ []))
numbered_send = pair_send u64 Record.the_row (search sendable) record_send

page_send : IsSend (Vec.the_row (Tuple (u64 ∷ Record.the_row ∷ [])) Heap.the_row ghosts)
page_send = Vec-send (Tuple (u64 ∷ Record.the_row ∷ [])) numbered_send

pages_send : IsSend Pages.the_row
pages_send = search (page_send, parts) depth 20 fits 100000

lists_send : IsSend NodeLists.the_row
lists_send = search (parts) depth 20 fits 100000

index_send : IsSend BlockIndex.the_row
index_send = search (lists_send, parts) depth 20 fits 100000

blocks_send : IsSend Blocks.the_row
blocks_send = search (pages_send, index_send, parts) depth 20 fits 100000

pub store_send : IsSend Store.the_row
store_send = search (pages_send, blocks_send, parts) depth 20 fits 100000
