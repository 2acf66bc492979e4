use Rattle.std.proofs.Common.{◌≡◌, [], drop, string_bytes}
use Rattle.serde_json.specs.View.{items_view}
use Rattle.ipam_operator.specs.Routes.{route_texts}
use Rattle.ipam_operator.proofs.routing.route_texts.Given as goal

-- what was found so far, and what the other items hold
abbrev pub invariant-loop-item : goal.invariant-loop-item
invariant-loop-item l =
    route_texts l.node (string_bytes l.text) (items_view (drop l.item-index l.items)) ≡ route_texts l.node [] (items_view l.items)
