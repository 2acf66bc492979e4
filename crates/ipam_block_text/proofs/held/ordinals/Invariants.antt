use Rattle.std.proofs.Common.{◌≡◌, take, drop}
use Rattle.ipam_block_text.specs.Reading.{are_ordinals}
use Rattle.ipam_block_text.proofs.held.ordinals.Given as goal

abbrev pub invariant-loop-number : goal.invariant-loop-number
invariant-loop-number l = record {
  items : l.ordinals.items ≡ take l.number-index l.numbers;
  rest : are_ordinals (drop l.number-index l.numbers) ≡ are_ordinals l.numbers;
}
