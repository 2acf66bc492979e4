use Rattle.std.proofs.Common.{◌≡◌, drop}
use Rattle.serde_json.specs.View.{items_view}
use Rattle.cni_types.specs.Configuration.{attachments_tested_from}
use Rattle.cni_types.proofs.configuration.test_attachments.Given as goal

-- what the items that are left decide is what all decide
abbrev pub invariant-loop-index : goal.invariant-loop-index
invariant-loop-index l =
    attachments_tested_from l.index (items_view (drop l.index l.items))
    ≡ attachments_tested_from 0 (items_view l.items)
