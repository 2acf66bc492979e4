use Rattle.std.proofs.Common.{◌≡◌, map, take}
use Rattle.serde_json.specs.View.{view}
use Rattle.ipam_show.specs.Addresses.{use_data}
use Rattle.ipam_show.proofs.addresses_json.list_value.Given as goal

abbrev pub invariant-loop-used : goal.invariant-loop-used
invariant-loop-used l = map view l.list.items ≡ map use_data (take l.used-index l.uses)
