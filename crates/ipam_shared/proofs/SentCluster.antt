-- What lies under the lock of a shared cluster may cross threads where its keeper may.
use denote.RattleType.{RattleType}
use denote.Param.Send.{IsSend, view_send, sendable}
use denote.Param.SendFields.{declared_send}
use Rattle.std.proofs.Crossing.{Vec-send, Deque-send}
use Rattle.ipam_records.specs.contracts.call.Row as Row
use Rattle.ipam_store.specs.contracts.route.Route as Route
use Rattle.ipam_store.specs.contracts.change.Change as Change
use Rattle.ipam_store.specs.contracts.feed_next.NextChange as NextChange
use Rattle.ipam_store.specs.contracts.ring.Ring as Ring
use Rattle.ipam_store.specs.contracts.ring.Ring.TheInside as ring_inside
use Rattle.ipam_cluster.specs.contracts.cluster.Cluster as Cluster
use Rattle.ipam_shared.specs.contracts.write.RowWrite as RowWrite
use Rattle.ipam_shared.specs.contracts.kept.Kept as Kept
use Rattle.ipam_shared.specs.contracts.locked.Locked as Locked
use Rattle.ipam_shared.proofs.SentRows.{parts}
use Rattle.ipam_shared.proofs.SentStore.{store_send}
use Rattle.ipam_shared.proofs.SentProcedures.{running_send}

cluster_send : IsSend Cluster.the_row
cluster_send = search (store_send, running_send, parts) depth 20 fits 100000

pub row_send : IsSend Row.the_row
row_send = search (parts) depth 20 fits 100000

write_send : IsSend RowWrite.the_row
write_send = search (row_send, parts) depth 20 fits 100000

-- ---- the feed of routes

route_send : IsSend Route.the_row
route_send = search (parts) depth 20 fits 100000

change_send : IsSend Change.the_row
change_send = search (route_send, parts) depth 20 fits 100000

next_send : IsSend NextChange.the_row
next_send = search (change_send, route_send, parts) depth 20 fits 100000

ring_send : IsSend Ring.the_row
ring_send =
    view_send ring_inside.the_row _ _ _ _
    (declared_send ring_inside.the_type (Vec-send Route.the_row route_send, (Deque-send Change.the_row change_send, (search sendable, (search sendable, (search (next_send, parts) depth 20 fits 100000, tt))))))

-- ---- the whole

kept_send : (D : RattleType) → IsSend D → IsSend (Kept.the_row D)
kept_send D s = search (cluster_send, s, write_send, ring_send, parts) depth 20 fits 100000

pub locked_send : (D : RattleType) → IsSend D → IsSend (Locked.the_row D)
locked_send D s = declared_send (Locked.the_type D) (kept_send D s, tt)
