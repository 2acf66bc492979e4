use Rattle.cni_asks.proofs.SoundCalls.{one_more, all_of_them}
use Rattle.cni_asks.proofs.asking.know_addresses.Goals as goal

pub loop-address-preserved : goal.loop-address-preserved
loop-address-preserved c =
    one_more c.args.addresses.now c.loop-address.address-index c.address-item.result c.address-item.is c.loop-address-test.true c.know_address.ensures c.loop-address.invariant

pub returns : goal.returns
returns c = all_of_them c.args.addresses.now c.loop-address.address-index c.loop-address-test.false c.loop-address.invariant
