use denote.Param.Send.{sendable}
use Rattle.ipam_shared.proofs.SentShared.{shared_send, shared_sync}
use Rattle.ipam_daemon.proofs.staff.engage.Goals as goal

pub engage_over-requires-send-S : goal.engage_over-requires-send-S
engage_over-requires-send-S g c κs within = let s = c.type_bounds.send-D in search (shared_send, sendable) depth 20 fits 100000

pub engage_over-requires-sync-S : goal.engage_over-requires-sync-S
engage_over-requires-sync-S g c κs within = let s = c.type_bounds.send-D in search (shared_sync, sendable) depth 20 fits 100000
