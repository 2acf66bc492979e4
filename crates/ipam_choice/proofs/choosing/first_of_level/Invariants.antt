use Rattle.std.proofs.Common.{◌≡◌, drop}
use Rattle.ipam_choice.specs.First.{first_of}
use Rattle.ipam_choice.specs.Level.{level_number}
use Rattle.ipam_choice.specs.Viewed.{asked_of}
use Rattle.ipam_choice.specs.Scanned.{sight_of, if_usable}
use Rattle.ipam_choice.proofs.choosing.first_of_level.Given as goal

abbrev pub invariant-loop-pool : goal.invariant-loop-pool
invariant-loop-pool l =
    first_of (if_usable (asked_of l.wanted) (sight_of l.scan) (level_number l.level)) (drop l.pool-index l.pools)
    ≡ first_of (if_usable (asked_of l.wanted) (sight_of l.scan) (level_number l.level)) l.pools
