use Rattle.std.proofs.Common.{◌≡◌, map, take}
use Rattle.serde_json.specs.View.{view}
use Rattle.cni_types.specs.Texts.{entry_data}
use Rattle.cni_types.proofs.texts.entries_value.Given as goal

abbrev pub invariant-loop-address : goal.invariant-loop-address
invariant-loop-address l =
    map view l.entries.items ≡ map (entry_data l.version) (take l.address-index l.addresses)
