use Rattle.ipam_json.proofs.Steps.{written_more, written_all}
use Rattle.ipam_show.specs.Addresses.{use_data}
use Rattle.ipam_show.proofs.addresses_json.list_value.Goals as goal

pub loop-used-preserved : goal.loop-used-preserved
loop-used-preserved c =
    let l = c.loop-used in
    written_more use_data c.args.uses.now l.used-index c.used-item.result c.in_ok-use_value.field-0 l.list.items c.push.new.self.items c.loop-used-test.true c.used-item.is c.in_ok-use_value.ensures c.in_ok-push.ensures.items l.invariant

pub returns : goal.returns
returns c =
    let l = c.loop-used in
    written_all use_data c.args.uses.now l.used-index l.list c.loop-used-test.false l.invariant
