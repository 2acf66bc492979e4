use denote.Param.Send.{sendable}
use Rattle.ipam_shared.proofs.SentMemory.{memory_send}
use Rattle.ipam_daemon_tests.proofs.threads.tell.Goals as goal

pub tell_over-requires-send-D : goal.tell_over-requires-send-D
tell_over-requires-send-D g c κs within = search (memory_send, sendable) depth 20 fits 100000
