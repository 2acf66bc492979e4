use Rattle.std.proofs.Common.{◌≡◌, drop}
use Rattle.ipam_records.specs.Datastore.{most_blocks}
use Rattle.ipam_opening.specs.Limits.{at_block}
use Rattle.ipam_opening.proofs.given.Given.excess_block.Given as goal

abbrev pub invariant-loop-place : goal.invariant-loop-place
invariant-loop-place l = at_block (drop l.place l.self.rows.now) l.left ≡ at_block l.self.rows.now most_blocks
