use Rattle.std.proofs.Common.{◌≡◌, [], drop}
use Rattle.serde_json.specs.View.{items_view}
use Rattle.ipam_resources.specs.Documents.{resources_after}
use Rattle.ipam_resources.proofs.list.resources_of_items.Given as goal

-- what was found so far, and what the other items are
abbrev pub invariant-loop-item : goal.invariant-loop-item
invariant-loop-item l =
    resources_after l.resources.items (items_view (drop l.item-index l.items)) ≡ resources_after [] (items_view l.items)
