use Rattle.std.proofs.Common.{◌≡◌, [], drop}
use Rattle.serde_json.specs.View.{items_view}
use Rattle.ipam_record_text.specs.Reservations.{cidrs_after}
use Rattle.ipam_request_text.proofs.fields.cidrs_of.Given as goal

-- what was found so far, and what the other items hold
abbrev pub invariant-loop-item : goal.invariant-loop-item
invariant-loop-item l =
    cidrs_after l.cidrs.items (items_view (drop l.item-index l.items)) ≡ cidrs_after [] (items_view l.items)
