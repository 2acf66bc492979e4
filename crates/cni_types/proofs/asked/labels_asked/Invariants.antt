use Rattle.std.proofs.Common.{◌≡◌}
use Rattle.serde_json.specs.View.{view, members_view}
use Rattle.cni_types.specs.Asked.{labels_after, labels_asked}
use Rattle.cni_types.proofs.asked.labels_asked.Given as goal

-- what was copied so far, and after it the members that are left
abbrev pub invariant-loop-key : goal.invariant-loop-key
invariant-loop-key l =
    labels_after l.labels.items (members_view l.key-iterator) ≡ labels_asked (view l.json)
