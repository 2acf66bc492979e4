use Rattle.std.proofs.Common.{◌≡◌, map}
use Rattle.ipam_block_text.proofs.parts.queue_of.Given as goal

abbrev pub invariant-loop-ordinal : goal.invariant-loop-ordinal
invariant-loop-ordinal l = l.numbers.items ≡ map (λ x. x.now) l.yielded
