use Rattle.std.proofs.Common.{◌≡◌, [], drop}
use Rattle.serde_json.specs.View.{items_view}
use Rattle.ipam_record_text.specs.Reservations.{reservations_after}
use Rattle.ipam_record_text.proofs.reservations.reservations_of_items.Given as goal

-- what was found so far, and what the other items hold
abbrev pub invariant-loop-item : goal.invariant-loop-item
invariant-loop-item l =
    reservations_after l.list.items (items_view (drop l.item-index l.items)) ≡ reservations_after [] (items_view l.items)
