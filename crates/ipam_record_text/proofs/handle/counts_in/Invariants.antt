use Rattle.std.proofs.Common.{◌≡◌, []}
use Rattle.serde_json.specs.View.{members_view}
use Rattle.ipam_block.specs.HandleSound.{AreCounts}
use Rattle.ipam_record_text.specs.Handle.{counts_after}
use Rattle.ipam_record_text.proofs.handle.counts_in.Given as goal

-- the counts so far, and what the members that are left make of them
abbrev pub invariant-loop-name : goal.invariant-loop-name
invariant-loop-name l = record {
  counts : counts_after l.counts.entries (members_view l.name-iterator) ≡ counts_after [] (members_view l.members.entries);
  sound : AreCounts l.counts.entries;
}
