use Rattle.std.proofs.Common.{◌≡◌, [], drop}
use Rattle.serde_json.specs.View.{items_view}
use Rattle.cni_types.specs.Asked.{live_after}
use Rattle.cni_types.proofs.asked.gc_asked.Given as goal

-- what was copied so far, and after it the items that are left
abbrev pub invariant-loop-item : goal.invariant-loop-item
invariant-loop-item l =
    live_after l.name l.live.items (items_view (drop l.item-index l.items)) ≡ live_after l.name [] (items_view l.items)
