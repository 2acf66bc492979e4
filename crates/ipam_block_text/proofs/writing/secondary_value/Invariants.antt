use Rattle.std.proofs.Common.{◌≡◌, take}
use Rattle.std.specs.Prelude.{fold}
use Rattle.serde_json.specs.Data.{no_members}
use Rattle.serde_json.specs.View.{members_view}
use Rattle.ipam_block_text.specs.Body.{with_pair}
use Rattle.ipam_block_text.proofs.writing.secondary_value.Given as goal

abbrev pub invariant-loop-pair : goal.invariant-loop-pair
invariant-loop-pair l = members_view l.members.entries ≡ fold with_pair no_members (take l.pair-index l.pairs)
