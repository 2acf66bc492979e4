use denote.Param.Send.{sendable}
use Rattle.ipam_shared.proofs.SentMemory.{memory_send}
use Rattle.ipam_shared.proofs.crossing.memory_may_cross.Goals as goal

pub hand-requires-send-S : goal.hand-requires-send-S
hand-requires-send-S g c = search (memory_send, sendable) depth 20 fits 100000
