use denote.Param.Send.{sendable}
use Rattle.ipam_shared.proofs.SentShared.{shared_sync}
use Rattle.ipam_daemon_tests.proofs.threads.tell_over.Goals as goal

pub spread-pass-requires-sync-T : goal.spread-pass-requires-sync-T
spread-pass-requires-sync-T g c κs within = let s = c.type_bounds.send-D in search (shared_sync, sendable) depth 20 fits 100000
