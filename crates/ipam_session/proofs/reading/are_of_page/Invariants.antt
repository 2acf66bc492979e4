use Rattle.std.proofs.Common.{◌≡◌}
use Rattle.serde_json.specs.View.{members_view}
use Rattle.ipam_session.specs.Wishes.{are_of_page}
use Rattle.ipam_session.proofs.reading.are_of_page.Given as goal

abbrev pub invariant-loop-name : goal.invariant-loop-name
invariant-loop-name l = are_of_page (members_view l.name-iterator) ≡ are_of_page (members_view l.members.entries)
