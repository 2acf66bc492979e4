use Rattle.std.proofs.Common.{◌≡◌, take, map}
use Rattle.ipam_block_text.specs.Attributes.{distinct_attributes}
use Rattle.ipam_block_text.specs.Numbering.{borrowed, IsNumbering, placed, numbered_in}
use Rattle.ipam_block_text.proofs.parts.numbered.Given as goal

-- the attributes so far, their numbers, and the index of each allocation so far
abbrev pub invariant-loop-allocation : goal.invariant-loop-allocation
invariant-loop-allocation l = record {
  attributes : borrowed l.attributes.items ≡ distinct_attributes (take l.allocation-index l.allocations);
  numbering : IsNumbering l.numbers (borrowed l.attributes.items);
  held : map placed l.held.items ≡ map (numbered_in (borrowed l.attributes.items)) (take l.allocation-index l.allocations);
}
