use Rattle.std.proofs.Common.{◌≡◌, [], drop}
use Rattle.serde_json.specs.View.{items_view}
use Rattle.ipam_resources.specs.Values.{ranges_after}
use Rattle.ipam_resources.proofs.ranges.ranges_of.Given as goal

-- what was found so far, and what the other items are
abbrev pub invariant-loop-item : goal.invariant-loop-item
invariant-loop-item l =
    ranges_after l.ranges.items (items_view (drop l.item-index l.items)) ≡ ranges_after [] (items_view l.items)
