-- What is known of connections over the system's sockets.
use Rattle.std.specs.Prelude.{◌≡◌, ℕ}
use Rattle.std.specs.Duration.{as_nanos}
use Rattle.ipam_io.specs.Counts.{Rose, next_count}
use Rattle.ipam_socket.specs.declared.dialing.DialError.{DialError}
use Rattle.ipam_socket.specs.declared.dialing.DialError.TheVariants.{Refused, Busy, Denied, Unknown, Failed}
use Rattle.ipam_call.specs.declared.connecting.Connector.{Connector}

-- one more connection was made
pub record HasConnected {R : Type 0} (before after : Connector R) : Type 0 where
  pub connected : after.connected ≡ next_count before.connected
  pub faults : after.faults ≡ before.faults

-- none could be made, once more
pub record HasFailed {R : Type 0} (before after : Connector R) : Type 0 where
  pub connected : after.connected ≡ before.connected
  pub faults : Rose before.faults after.faults

-- How many nanoseconds it goes on after a try that failed so, counted from the first: where nobody listens, for its
-- patience; where there is no room for one more, for as long as it waits for a first line; and else not.
abbrev pub nanos_tried : {R : Type 0} → Connector R → DialError → ℕ
nanos_tried connector Refused = as_nanos connector.patience
nanos_tried connector Busy = as_nanos connector.limits.first
nanos_tried connector Denied = 0
nanos_tried connector Unknown = 0
nanos_tried connector Failed = 0
