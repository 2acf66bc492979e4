use Rattle.std.proofs.Common.{map, ap, ◌∙◌}
use Rattle.std.proofs.lemmas.List.{take_all}
use Rattle.serde_json.specs.View.{view}
use Rattle.serde_json.proofs.Views.{view-Array}
use Rattle.ipam_json.specs.Built.{array_of}
use Rattle.cni_types.specs.Texts.{entry_data}
use Rattle.ipam_json.proofs.Steps.{built_more}
use Rattle.cni_types.proofs.texts.entries_value.Goals as goal

pub loop-address-init : goal.loop-address-init
loop-address-init c = ap (map view) c.new-entries.ensures.items

pub loop-address-preserved : goal.loop-address-preserved
loop-address-preserved c =
    ap (map view) c.in_ok-push.ensures.items
    ∙ built_more (entry_data c.args.version) c.args.addresses.now _ _ _ _ c.loop-address.invariant c.in_ok-entry_value.ensures c.address-item.is c.loop-address-test.true

pub returns : goal.returns
returns c =
    view-Array c.loop-address.entries
    ∙ ap array_of (c.loop-address.invariant ∙ ap (map (entry_data c.args.version)) (take_all _ c.args.addresses.now c.loop-address-test.false))
