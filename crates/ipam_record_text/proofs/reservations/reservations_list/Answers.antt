use Rattle.std.proofs.Common.{map, ◌∙◌, ap}
use Rattle.std.proofs.lemmas.List.{take_all}
use Rattle.serde_json.specs.View.{view}
use Rattle.ipam_record_text.specs.Reservations.{reservation_data}
use Rattle.ipam_json.proofs.Steps.{built_more}
use Rattle.ipam_record_text.proofs.reservations.reservations_list.Goals as goal

pub loop-reservation-init : goal.loop-reservation-init
loop-reservation-init c = ap (map view) c.new-items.ensures.items

pub loop-reservation-preserved : goal.loop-reservation-preserved
loop-reservation-preserved c = ap (map view) c.in_ok-push.ensures.items ∙ built_more reservation_data c.args.list.now _ _ _ _ c.loop-reservation.invariant c.in_ok-json.ensures c.reservation-item.is c.loop-reservation-test.true

pub returns : goal.returns
returns c = c.loop-reservation.invariant ∙ ap (map reservation_data) (take_all c.loop-reservation.reservation-index c.args.list.now c.loop-reservation-test.false)
