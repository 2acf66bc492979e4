use denote.Param.Send.{sendable}
use Rattle.ipam_shared.proofs.SentShared.{shared_send, shared_sync}
use Rattle.ipam_shared.proofs.crossing.may_be_shared.Goals as goal

pub cross-requires-send-S : goal.cross-requires-send-S
cross-requires-send-S g c κs within = let s = c.type_bounds.send-D in search (shared_send, sendable) depth 20 fits 100000

pub cross-requires-sync-S : goal.cross-requires-sync-S
cross-requires-sync-S g c κs within = let s = c.type_bounds.send-D in search (shared_sync, sendable) depth 20 fits 100000
