use Rattle.std.proofs.Common.{◌≡◌, drop}
use Rattle.ipam_model.specs.Pairs.{value_of}
use Rattle.ipam_show.proofs.counting.recorded.Given as goal

abbrev pub invariant-loop-pair : goal.invariant-loop-pair
invariant-loop-pair l = value_of l.key (drop l.pair-index l.attributes.secondary) ≡ value_of l.key l.attributes.secondary
