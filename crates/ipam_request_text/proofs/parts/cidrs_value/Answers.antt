use Rattle.ipam_record_text.specs.Reservations.{cidr_data}
use Rattle.ipam_json.proofs.Steps.{written_more, written_all}
use Rattle.ipam_request_text.proofs.parts.cidrs_value.Goals as goal

pub loop-cidr-preserved : goal.loop-cidr-preserved
loop-cidr-preserved c =
    let l = c.loop-cidr in
    written_more cidr_data c.args.cidrs.now l.cidr-index c.cidr-item.result c.in_ok-cidr_value.field-0 l.list.items c.push.new.self.items c.loop-cidr-test.true c.cidr-item.is c.in_ok-cidr_value.ensures c.in_ok-push.ensures.items l.invariant

pub returns : goal.returns
returns c =
    let l = c.loop-cidr in
    written_all cidr_data c.args.cidrs.now l.cidr-index l.list c.loop-cidr-test.false l.invariant
