use Rattle.std.proofs.Common.{◌≡◌, map, take}
use Rattle.serde_json.specs.View.{view}
use Rattle.ipam_session.specs.Replies.{route_data}
use Rattle.ipam_session.proofs.replies.routes_value.Given as goal

abbrev pub invariant-loop-route : goal.invariant-loop-route
invariant-loop-route l = map view l.list.items ≡ map route_data (take l.route-index l.routes)
