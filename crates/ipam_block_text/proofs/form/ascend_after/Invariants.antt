use Rattle.std.proofs.Common.{◌≡◌, drop}
use Rattle.ipam_block_text.specs.Limits.{ascend_after}
use Rattle.ipam_block_text.proofs.form.ascend_after.Given as goal

abbrev pub invariant-loop-pair : goal.invariant-loop-pair
invariant-loop-pair l = ascend_after l.last (drop l.pair-index l.pairs) ≡ ascend_after l.key l.pairs
