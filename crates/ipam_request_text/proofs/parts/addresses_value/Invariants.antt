use Rattle.std.proofs.Common.{◌≡◌, map, take}
use Rattle.serde_json.specs.View.{view}
use Rattle.ipam_request_text.specs.Parts.{address_data}
use Rattle.ipam_request_text.proofs.parts.addresses_value.Given as goal

abbrev pub invariant-loop-address : goal.invariant-loop-address
invariant-loop-address l = map view l.list.items ≡ map address_data (take l.address-index l.addresses)
