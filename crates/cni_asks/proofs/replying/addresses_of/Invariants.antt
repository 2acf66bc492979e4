use Rattle.std.proofs.Common.{◌≡◌, take}
use Rattle.cni_asks.specs.Replying.{addresses_of}
use Rattle.cni_asks.proofs.replying.addresses_of.Given as goal

abbrev pub invariant-loop-one : goal.invariant-loop-one
invariant-loop-one l = l.addresses.items ≡ addresses_of (take l.one-index l.given)
