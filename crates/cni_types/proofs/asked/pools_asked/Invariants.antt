use Rattle.std.proofs.Common.{◌≡◌, [], drop}
use Rattle.serde_json.specs.View.{items_view}
use Rattle.cni_types.specs.Asked.{listed_texts_after}
use Rattle.cni_types.proofs.asked.pools_asked.Given as goal

-- what was copied so far, and after it the items that are left
abbrev pub invariant-loop-item : goal.invariant-loop-item
invariant-loop-item l =
    listed_texts_after l.texts.items (items_view (drop l.item-index l.items)) ≡ listed_texts_after [] (items_view l.items)
