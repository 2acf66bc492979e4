use Rattle.std.proofs.Common.{◌≡◌, take}
use Rattle.ipam_block_text.specs.Numbering.{borrowed}
use Rattle.ipam_block_text.proofs.parts.each_of.Given as goal

abbrev pub invariant-loop-own : goal.invariant-loop-own
invariant-loop-own l = borrowed l.each.items ≡ take l.own-index l.attributes
