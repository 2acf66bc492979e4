use Rattle.std.proofs.Common.{◌≡◌, drop}
use Rattle.ipam_block.specs.Test.{ascends_from}
use Rattle.ipam_block.proofs.sound.ascend.Given as goal

-- what is left ascends from here where all do
abbrev pub invariant-loop-allocation : goal.invariant-loop-allocation
invariant-loop-allocation l = ascends_from l.least (drop l.allocation-index l.held) ≡ ascends_from 0 l.held
