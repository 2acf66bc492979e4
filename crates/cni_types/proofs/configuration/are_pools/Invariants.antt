use Rattle.std.proofs.Common.{◌≡◌, drop}
use Rattle.serde_json.specs.View.{items_view}
use Rattle.cni_types.specs.Configuration.{are_all_pools}
use Rattle.cni_types.proofs.configuration.are_pools.Given as goal

-- what the items that are left decide is what all decide
abbrev pub invariant-loop-item : goal.invariant-loop-item
invariant-loop-item l =
    are_all_pools (items_view (drop l.item-index l.items)) ≡ are_all_pools (items_view l.items)
