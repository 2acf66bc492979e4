use Rattle.std.proofs.Common.{◌≡◌, ◌++◌}
use Rattle.ipam_record_text.proofs.handle.listed.Given as goal

-- the counts so far, and those that are left
abbrev pub invariant-loop-block : goal.invariant-loop-block
invariant-loop-block l = l.list.items ++ l.block-iterator ≡ l.counts.entries
