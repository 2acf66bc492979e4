use Rattle.std.proofs.Common.{◌≡◌, codes, drop}
use Rattle.serde_json.specs.View.{items_view}
use Rattle.ipam_resources.specs.Values.{lists_text}
use Rattle.ipam_resources.proofs.values.lists_workload.Given as goal

-- none before is this text
abbrev pub invariant-loop-item : goal.invariant-loop-item
invariant-loop-item l =
    lists_text (codes "Workload") (items_view (drop l.item-index l.items)) ≡ lists_text (codes "Workload") (items_view l.items)
