use Rattle.std.proofs.Common.{take}
use Rattle.std.specs.List.{All}
use Rattle.ipam_addr.specs.Width.{IsAddress}
use Rattle.cni_asks.proofs.asking.know_addresses.Given as goal

abbrev pub invariant-loop-address : goal.invariant-loop-address
invariant-loop-address l = All IsAddress (take l.address-index l.addresses)
