use Rattle.std.proofs.Common.{◌≡◌, map, take}
use Rattle.serde_json.specs.View.{view}
use Rattle.ipam_views.specs.Node.{own_data}
use Rattle.ipam_views.proofs.node_json.own_list.Given as goal

abbrev pub invariant-loop-count : goal.invariant-loop-count
invariant-loop-count l = map view l.list.items ≡ map (own_data l.store.store) (take l.count-index l.counts)
