-- What a session over a connection is served over, and what it comes to.
use Rattle.std.specs.Prelude.{◌≡◌, ℕ, List, Some, None}
use Rattle.std.specs.Borrow.{Bor}
use Rattle.std.specs.Io.KnownBytes.{prepend_known}
use Rattle.ipam_shared.specs.PassValue.{PassValue}
use Rattle.ipam_serve.specs.declared.ends.SessionEnd.{SessionEnd}
use Rattle.ipam_serve.specs.Keeping.{AtKeeper}
use Rattle.ipam_serve.specs.Lines.{server_at}
use Rattle.ipam_serve.specs.Sessions.{Session, talk_at}
use Rattle.ipam_socket.specs.declared.gate.StreamPeer.{StreamPeer}
use Rattle.ipam_socket.specs.declared.link.SocketLink.{SocketLink}
use Rattle.ipam_socket.specs.declared.connection.Connection.{Connection}
use Rattle.ipam_socket.specs.Links.{connection_of, peer_of, whose}
use Rattle.ipam_daemon.specs.declared.asking.Asking.{Asking}

-- A link and a gate were made of the connection, and a session of this kind was served over them.
pub record IsServedOver {T L G : Type 0} (is_link : T → L → Type 0) (is_gate : T → G → Type 0) (connection : T) (session : L → G → Type 0) : Type 0 where
  pub link : L
  pub gate : G
  pub own_link : is_link connection link
  pub own_gate : is_gate connection gate
  pub served : session link gate

-- A session that ended so was served over a socket, from the pass of before to that of after, which counted so many
-- passes of its gate in the end. A link over a socket tells no bytes.
pub record IsAttended (C : Type 0) (at : AtKeeper) (opened : List ℕ) (before after : PassValue) (connection : Bor Connection) (how : SessionEnd) : Type 0 where
  pub turns : ℕ
  pub lines : ℕ
  pub served : IsServedOver {L = SocketLink C (Bor Connection)} {G = Asking StreamPeer}
      (λ of link. connection_of link ≡ of) (λ of gate. whose (peer_of gate.gate) ≡ of.now) connection
      (λ link gate. (held : List ℕ) × Session at how
      (talk_at (server_at before (Some gate.turns) None) opened (Some gate.lines) None None)
      (talk_at (server_at after (Some turns) None) opened (Some lines) (prepend_known held None) None))

-- A session was served over this connection, which was lent for as long.
pub record IsServedLent (C : Type 0) (at : AtKeeper) (opened : List ℕ) (before after : PassValue) (connection : Connection) : Type 0 where
  pub lent : Bor Connection
  pub own : lent.now ≡ connection
  pub how : SessionEnd
  pub attended : IsAttended C at opened before after lent how
