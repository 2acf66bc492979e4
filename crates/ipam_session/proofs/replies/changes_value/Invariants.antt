use Rattle.std.proofs.Common.{◌≡◌, map, take}
use Rattle.serde_json.specs.View.{view}
use Rattle.ipam_session.specs.Replies.{route_change_data}
use Rattle.ipam_session.proofs.replies.changes_value.Given as goal

abbrev pub invariant-loop-change : goal.invariant-loop-change
invariant-loop-change l = map view l.list.items ≡ map route_change_data (take l.change-index l.changes)
