use Rattle.std.proofs.Common.{length}
use Rattle.ipam_records.specs.Listing.{rows_of}
use Rattle.ipam_choice.specs.Ahead.{cidrs_left}
use Rattle.ipam_choice.proofs.BareLemmas.{Walks}
use Rattle.ipam_choice.proofs.slots.next_bare.Given as goal

abbrev pub invariant-loop-cidr : goal.invariant-loop-cidr
invariant-loop-cidr l = Walks l.reserved (rows_of l.blocks) l.pool (cidrs_left l.ahead) l.number

abbrev pub decreases-loop-cidr : goal.decreases-loop-cidr
decreases-loop-cidr l = length (cidrs_left l.ahead)
