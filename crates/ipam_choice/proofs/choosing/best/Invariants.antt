use Rattle.std.proofs.Common.{◌≡◌, drop, map, [], ◌∷◌}
use Rattle.ipam_choice.specs.First.{first_of}
use Rattle.ipam_choice.specs.Level.{level_number}
use Rattle.ipam_choice.specs.Viewed.{asked_of}
use Rattle.ipam_choice.specs.Scanned.{sight_of, first_usable}
use Rattle.ipam_choice.proofs.choosing.best.Given as goal

abbrev pub invariant-loop-level : goal.invariant-loop-level
invariant-loop-level l =
    first_of (first_usable (asked_of l.wanted) (sight_of l.scan) l.pools) (map level_number (drop l.level-index l.level-items))
    ≡ first_of (first_usable (asked_of l.wanted) (sight_of l.scan) l.pools) (0 ∷ 1 ∷ 2 ∷ 3 ∷ [])
