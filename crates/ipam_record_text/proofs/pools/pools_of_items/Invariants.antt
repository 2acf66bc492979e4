use Rattle.std.proofs.Common.{◌≡◌, [], drop}
use Rattle.serde_json.specs.View.{items_view}
use Rattle.ipam_record_text.specs.Pools.{pools_after}
use Rattle.ipam_record_text.proofs.pools.pools_of_items.Given as goal

-- what was found so far, and what the other items hold
abbrev pub invariant-loop-item : goal.invariant-loop-item
invariant-loop-item l =
    pools_after l.pools.items (items_view (drop l.item-index l.items)) ≡ pools_after [] (items_view l.items)
