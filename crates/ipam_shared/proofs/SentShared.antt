-- A shared cluster may cross threads and be shared by them where its keeper may cross.
use denote.RattleType.{RattleType}
use denote.Param.Send.{IsSend, IsSync, view_send, view_sync, sendable}
use denote.Param.SendFields.{declared_send, declared_sync}
use Rattle.std.proofs.Crossing.{frees, send as heap_send, sync as heap_sync}
use Rattle.std.specs.contracts.alloc.Global as Heap
use Rattle.std.specs.contracts.impls.GlobalAllocator.TheImpl.{ghosts}
use Rattle.atomic_table.proofs.shared.Shared.TheSendSync.{the_send as table_send, the_sync as table_sync}
use Rattle.atomic_table.proofs.send_lease.SendLease.TheSendSync.{the_send as lease_send, the_sync as lease_sync}
use Rattle.atomic_table.specs.declared.shared.TableRule as rule
use Rattle.atomic_table.specs.contracts.owned.Table as Table
use Rattle.turn_lock.specs.declared.booked.Booked as booked
use Rattle.turn_lock.specs.contracts.lock.TurnLock as TurnLock
use Rattle.turn_lock.specs.contracts.lock.TurnLock.TheInside as lock_inside
use Rattle.ipam_keeper.specs.declared.keeper.Keeper.{Ghosts}
use Rattle.ipam_shared.specs.contracts.shared.Shared as Shared
use Rattle.ipam_shared.specs.contracts.shared.Shared.TheInside as inside
use Rattle.ipam_shared.proofs.SentCluster.{locked_send}

-- a table whose words and slots stand on the heap
module _ (S V K P : RattleType) (r : rule.Ghosts P.Denot S.Denot V.Denot K.Denot) where
  whole_send : IsSend S → IsSend (Table.the_row S V K P Heap.the_row r ghosts)
  whole_send s =
      declared_send (Table.the_type S V K P Heap.the_row r ghosts)
      (search (table_send), (search sendable, (search sendable, (search (lease_send, frees, heap_send), (search (lease_send, frees, heap_send), (heap_send, tt))))))

  whole_sync : IsSend S → IsSync (Table.the_row S V K P Heap.the_row r ghosts)
  whole_sync s =
      declared_sync (Table.the_type S V K P Heap.the_row r ghosts)
      (search (table_sync), (search sendable, (search sendable, (search (lease_sync, frees, heap_send), (search (lease_sync, frees, heap_send), (heap_sync, tt))))))

module _ (T O E : RattleType) (b : booked.Ghosts T.Denot O.Denot E.Denot) where
  lock_send : IsSend T → IsSend (TurnLock.the_row T O E b)
  lock_send s = view_send (lock_inside.the_row T O E b) _ _ _ _ (declared_send (lock_inside.the_type T O E b) (search (whole_send), tt))

  lock_sync : IsSend T → IsSync (TurnLock.the_row T O E b)
  lock_sync s = view_sync (lock_inside.the_row T O E b) _ _ _ _ (declared_sync (lock_inside.the_type T O E b) (search (whole_sync), tt))

module _ (D : RattleType) (g : Ghosts D.Denot) where
  pub shared_send : IsSend D → IsSend (Shared.the_row D g)
  shared_send s = view_send (inside.the_row D g) _ _ _ _ (declared_send (inside.the_type D g) (let l = locked_send D s in search (lock_send), tt))

  pub shared_sync : IsSend D → IsSync (Shared.the_row D g)
  shared_sync s = view_sync (inside.the_row D g) _ _ _ _ (declared_sync (inside.the_type D g) (let l = locked_send D s in search (lock_sync), tt))
