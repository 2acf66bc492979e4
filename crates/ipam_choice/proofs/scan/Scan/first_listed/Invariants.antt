use Rattle.std.proofs.Common.{◌≡◌, drop}
use Rattle.ipam_choice.specs.First.{first_of}
use Rattle.ipam_choice.specs.Level.{level_number}
use Rattle.ipam_choice.specs.Sight.{rank_listed, if_slot}
use Rattle.ipam_choice.specs.Scanned.{sight_of}
use Rattle.ipam_choice.proofs.scan.Scan.first_listed.Given as goal

abbrev pub invariant-loop-cidr : goal.invariant-loop-cidr
invariant-loop-cidr l =
    first_of (if_slot (rank_listed (sight_of l.self)) (level_number l.level) l.pool) (drop l.cidr-index l.blocks)
    ≡ first_of (if_slot (rank_listed (sight_of l.self)) (level_number l.level) l.pool) l.blocks
