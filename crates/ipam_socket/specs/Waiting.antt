-- What is known of the time that is left for a line.
use Rattle.std.specs.Prelude.{ℕ, Bool}
use Rattle.std.specs.Duration.{as_nanos}
use Rattle.ipam_socket.specs.declared.limits.Limits.{Limits}
use Rattle.ipam_socket.specs.declared.waits.Waits.{Waits}

-- how many nanoseconds are left
abbrev pub nanos_left : Waits → ℕ
nanos_left waits = as_nanos waits.left

-- whether they are left for a line that has begun, or for the first
abbrev pub is_begun : Waits → Bool
is_begun waits = waits.is_begun

-- the limits of each line
abbrev pub limits_of : Waits → Limits
limits_of waits = waits.limits
