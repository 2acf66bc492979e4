-- A keeper in memory may cross threads.
use mathlib.Core.List.{[], ◌∷◌}
use denote.Builtin.{u64, bool}
use denote.Struct.Tuple.{Tuple}
use denote.Param.Send.{IsSend, view_send, sendable}
use denote.Param.SendFields.{declared_send}
use Rattle.std.proofs.Crossing.{Vec-send}
use Rattle.std.specs.contracts.vec.Vec as Vec
use Rattle.std.specs.contracts.alloc.Global as Heap
use Rattle.std.specs.contracts.impls.GlobalAllocator.TheImpl.{ghosts}
use Rattle.ipam_records.specs.contracts.call.Row as Row
use Rattle.ipam_keeper.specs.contracts.memory.MemoryKeeper as MemoryKeeper
use Rattle.ipam_keeper.specs.contracts.memory.MemoryKeeper.TheInside as inside
use Rattle.ipam_shared.proofs.SentRows.{pair_send}
use Rattle.ipam_shared.proofs.SentCluster.{row_send}

rows_send : IsSend (Vec.the_row Row.the_row Heap.the_row ghosts)
rows_send = Vec-send Row.the_row row_send

failing_send : IsSend (Vec.the_row (Tuple (u64 ∷ bool ∷ [])) Heap.the_row ghosts)
failing_send = Vec-send (Tuple (u64 ∷ bool ∷ [])) (pair_send u64 bool (search sendable) (search sendable))

unsettled_send : IsSend (Vec.the_row u64 Heap.the_row ghosts)
unsettled_send = Vec-send u64 (search sendable)

pub memory_send : IsSend MemoryKeeper.the_row
memory_send = view_send inside.the_row _ _ _ _ (declared_send inside.the_type (search (rows_send, failing_send, unsettled_send, sendable)))
