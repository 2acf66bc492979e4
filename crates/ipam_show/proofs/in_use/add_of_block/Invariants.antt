use Rattle.std.proofs.Common.{◌≡◌, ◌++◌, drop}
use Rattle.std.specs.List.{filter_map}
use Rattle.ipam_words.specs.Views.{chosen_by}
use Rattle.ipam_show.specs.InUse.{use_of, uses_of_block}
use Rattle.ipam_show.proofs.in_use.add_of_block.Given as goal

abbrev pub invariant-loop-allocation : goal.invariant-loop-allocation
invariant-loop-allocation l =
    l.uses.items ++ filter_map (use_of (chosen_by l.chosen) l.block) (drop l.allocation-index l.allocation-items)
    ≡ l.initial.uses.items ++ uses_of_block (chosen_by l.chosen) l.block
