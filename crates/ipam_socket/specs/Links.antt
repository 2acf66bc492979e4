-- What is known of links over sockets, and of gates that look at a peer.
use Rattle.std.specs.Prelude.{ℕ, Bool, true, false, ◌==◌, ◌||◌}
use Rattle.ipam_socket.specs.declared.link.SocketLink.{SocketLink}
use Rattle.ipam_socket.specs.declared.gate.PeerGate.{PeerGate}
use Rattle.ipam_socket.specs.declared.gate.StreamPeer.{StreamPeer}
use Rattle.ipam_socket.specs.declared.connection.Connection.{Connection}
use Rattle.ipam_socket.specs.declared.stream.Stream.{Stream}
use Rattle.ipam_socket.specs.declared.stream.Stream.TheVariants.{File, Host}

-- the connection that it is a link of
abbrev pub connection_of : {C S : Type 0} → SocketLink C S → S
connection_of link = link.stream

-- how many reads of it failed
abbrev pub link_read_faults : {C S : Type 0} → SocketLink C S → ℕ
link_read_faults link = link.read_faults

-- how many writes to it failed
abbrev pub link_write_faults : {C S : Type 0} → SocketLink C S → ℕ
link_write_faults link = link.write_faults

-- the connection whose peer it is
abbrev pub whose : StreamPeer → Connection
whose peer = peer.connection.now

-- whom the gate looks at
abbrev pub peer_of : {P : Type 0} → PeerGate P → P
peer_of gate = gate.peer

-- how many looks were made at it
abbrev pub looks_of : StreamPeer → ℕ
looks_of peer = peer.looks

-- how many of them found nobody
abbrev pub gone_of : StreamPeer → ℕ
gone_of peer = peer.gone

-- whether the peer may be anyone who reaches this machine
abbrev pub is_open_to_hosts : Stream → Bool
is_open_to_hosts (File stream) = false
is_open_to_hosts (Host stream) = true

-- a brace or a blank of JSON
abbrev pub may_begin : ℕ → Bool
may_begin byte = byte == 123 || byte == 32 || byte == 9 || byte == 13 || byte == 10
