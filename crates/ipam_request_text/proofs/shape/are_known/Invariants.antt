use Rattle.std.proofs.Common.{◌≡◌}
use Rattle.serde_json.specs.View.{members_view}
use Rattle.ipam_request_text.specs.Shapes.{are_known}
use Rattle.ipam_request_text.proofs.shape.are_known.Given as goal

abbrev pub invariant-loop-name : goal.invariant-loop-name
invariant-loop-name l = are_known l.shape (members_view l.name-iterator) ≡ are_known l.shape (members_view l.members.entries)
