use Rattle.std.proofs.Common.{◌≡◌}
use Rattle.ipam_command.specs.Requests.{live_below}
use Rattle.ipam_command.proofs.gen_requests.live_below.Given as goal

abbrev pub invariant-loop-number : goal.invariant-loop-number
invariant-loop-number l = l.live ≡ live_below l.number
