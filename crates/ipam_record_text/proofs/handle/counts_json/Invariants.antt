use Rattle.std.proofs.Common.{◌≡◌, drop}
use Rattle.serde_json.specs.Data.{no_members}
use Rattle.serde_json.specs.View.{members_view}
use Rattle.ipam_record_text.specs.Handle.{with_counts}
use Rattle.ipam_record_text.proofs.handle.counts_json.Given as goal

-- the members so far, with the counts that are left, are those of all counts
abbrev pub invariant-loop-entry : goal.invariant-loop-entry
invariant-loop-entry l =
    with_counts (members_view l.map.entries) (drop l.entry-index l.counts) ≡ with_counts no_members l.counts
