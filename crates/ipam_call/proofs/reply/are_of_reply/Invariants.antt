use Rattle.std.proofs.Common.{◌≡◌}
use Rattle.serde_json.specs.View.{members_view}
use Rattle.ipam_call.specs.Replies.{are_of_reply}
use Rattle.ipam_call.proofs.reply.are_of_reply.Given as goal

abbrev pub invariant-loop-name : goal.invariant-loop-name
invariant-loop-name l = are_of_reply (members_view l.name-iterator) ≡ are_of_reply (members_view l.members.entries)
