use Rattle.std.proofs.Common.{◌≡◌, drop, option_map}
use Rattle.ipam_call.specs.Requests.{last_from, last_of}
use Rattle.ipam_call.proofs.request.last_of.Given as goal

-- what was found so far, and what the other pairs make of it
abbrev pub invariant-loop-pair : goal.invariant-loop-pair
invariant-loop-pair l =
    last_from l.name (option_map (λ t. t.now) l.found) (drop l.pair-index l.env) ≡ last_of l.name l.env
