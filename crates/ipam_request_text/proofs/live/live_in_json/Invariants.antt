use Rattle.std.proofs.Common.{◌≡◌, drop}
use Rattle.serde_json.specs.View.{view, items_view}
use Rattle.ipam_request_text.specs.Live.{ids_after, live_in}
use Rattle.ipam_request_text.proofs.live.live_in_json.Given as goal

-- what was found so far, and what the other items hold
abbrev pub invariant-loop-item : goal.invariant-loop-item
invariant-loop-item l =
    ids_after l.ids.items (items_view (drop l.item-index l.items)) ≡ live_in (view l.json)
