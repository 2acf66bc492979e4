use Rattle.std.proofs.Common.{◌∙◌, refl, sym, ap, Some}
use Rattle.ipam_record_text.specs.Reservations.{cidr_in, cidrs_after}
use Rattle.ipam_request_text.proofs.Lists.{read_more, read_all}
use Rattle.ipam_request_text.proofs.fields.cidrs_of.Goals as goal

pub loop-item-preserved : goal.loop-item-preserved
loop-item-preserved c =
    let l = c.loop-item in
    read_more cidr_in cidrs_after (λ done d ds. refl) c.args.items.now l.item-index c.item-item.result c.in-Some.cidr l.cidrs.items c.push.new.self.items _ c.loop-item-test.true c.item-item.is (sym c.cidr_in.ensures ∙ c.in-Some.is) c.in_ok-push.ensures.items l.invariant

pub returns : goal.returns
returns c =
    let l = c.loop-item in
    ap Some c.of.ensures ∙ read_all cidr_in cidrs_after (λ done d ds. refl) c.args.items.now l.item-index l.cidrs.items _ c.loop-item-test.false refl l.invariant
