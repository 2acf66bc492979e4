use Rattle.std.proofs.Common.{◌≡◌, [], drop}
use Rattle.serde_json.specs.View.{items_view}
use Rattle.cni_types.specs.Asked.{listed_addresses_after}
use Rattle.cni_types.proofs.asked.check_asked.Given as goal

-- what was copied so far, and after it the items that are left
abbrev pub invariant-loop-item : goal.invariant-loop-item
invariant-loop-item l =
    listed_addresses_after l.addresses.items (items_view (drop l.item-index l.items)) ≡ listed_addresses_after [] (items_view l.items)
