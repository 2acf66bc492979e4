-- No fault is counted yet.
use Rattle.std.proofs.Common.{◌≡◌}
use Rattle.ipam_socket.proofs.link.SocketLink.read_in_time.Given as goal

abbrev pub invariant-loop : goal.invariant-loop
invariant-loop g l = (l.self.read_faults ≡ l.initial.self.read_faults) × (l.self.write_faults ≡ l.initial.self.write_faults)
