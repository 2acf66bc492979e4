use Rattle.std.proofs.Common.{◌≡◌, map, take}
use Rattle.serde_json.specs.View.{view}
use Rattle.ipam_record_text.specs.Reservations.{reservation_data}
use Rattle.ipam_record_text.proofs.reservations.reservations_list.Given as goal

abbrev pub invariant-loop-reservation : goal.invariant-loop-reservation
invariant-loop-reservation l = map view l.items.items ≡ map reservation_data (take l.reservation-index l.list)
