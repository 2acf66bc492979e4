use Rattle.std.proofs.Common.{◌≡◌, map, take}
use Rattle.serde_json.specs.View.{view}
use Rattle.ipam_views.specs.Handle.{high_data}
use Rattle.ipam_views.proofs.handle_json.high_list.Given as goal

abbrev pub invariant-loop-high : goal.invariant-loop-high
invariant-loop-high l = map view l.list.items ≡ map high_data (take l.high-index l.counts)
