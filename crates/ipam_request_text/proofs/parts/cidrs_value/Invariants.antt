use Rattle.std.proofs.Common.{◌≡◌, map, take}
use Rattle.serde_json.specs.View.{view}
use Rattle.ipam_record_text.specs.Reservations.{cidr_data}
use Rattle.ipam_request_text.proofs.parts.cidrs_value.Given as goal

abbrev pub invariant-loop-cidr : goal.invariant-loop-cidr
invariant-loop-cidr l = map view l.list.items ≡ map cidr_data (take l.cidr-index l.cidrs)
