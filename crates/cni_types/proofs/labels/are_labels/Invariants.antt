use Rattle.std.proofs.Common.{◌≡◌, codes}
use Rattle.serde_json.specs.Find.{get}
use Rattle.serde_json.specs.View.{view, members_view}
use Rattle.cni_types.specs.Configuration.{are_all_labels, are_labels}
use Rattle.cni_types.proofs.labels.are_labels.Given as goal

-- what the members that are left decide is what all decide
abbrev pub invariant-loop-key : goal.invariant-loop-key
invariant-loop-key l =
    are_all_labels (members_view l.key-iterator) ≡ are_labels (get (codes "nodeLabels") (view l.json))
