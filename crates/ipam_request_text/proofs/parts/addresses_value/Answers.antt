use Rattle.ipam_request_text.specs.Parts.{address_data}
use Rattle.ipam_json.proofs.Steps.{written_more, written_all}
use Rattle.ipam_request_text.proofs.parts.addresses_value.Goals as goal

pub loop-address-preserved : goal.loop-address-preserved
loop-address-preserved c =
    let l = c.loop-address in
    written_more address_data c.args.addresses.now l.address-index c.address-item.result c.in_ok-address_value.field-0 l.list.items c.push.new.self.items c.loop-address-test.true c.address-item.is c.in_ok-address_value.ensures c.in_ok-push.ensures.items l.invariant

pub returns : goal.returns
returns c =
    let l = c.loop-address in
    written_all address_data c.args.addresses.now l.address-index l.list c.loop-address-test.false l.invariant
