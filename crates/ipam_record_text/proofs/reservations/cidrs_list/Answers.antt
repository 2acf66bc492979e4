use Rattle.std.proofs.Common.{map, ◌∙◌, ap}
use Rattle.std.proofs.lemmas.List.{take_all}
use Rattle.serde_json.specs.Data.{string}
use Rattle.serde_json.specs.View.{view}
use Rattle.ipam_record_text.specs.Reservations.{cidr_data}
use Rattle.ipam_json.proofs.Steps.{built_more, view_string}
use Rattle.ipam_record_text.proofs.reservations.cidrs_list.Goals as goal

pub loop-cidr-init : goal.loop-cidr-init
loop-cidr-init c = ap (map view) c.new-items.ensures.items

pub loop-cidr-preserved : goal.loop-cidr-preserved
loop-cidr-preserved c = ap (map view) c.in_ok-push.ensures.items ∙ built_more cidr_data c.args.cidrs.now _ _ _ _ c.loop-cidr.invariant (view_string c.in_ok-text.text ∙ ap string c.in_ok-text.ensures) c.cidr-item.is c.loop-cidr-test.true

pub returns : goal.returns
returns c = c.loop-cidr.invariant ∙ ap (map cidr_data) (take_all c.loop-cidr.cidr-index c.args.cidrs.now c.loop-cidr-test.false)
