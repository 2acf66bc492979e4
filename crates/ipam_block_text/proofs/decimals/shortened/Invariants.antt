use Rattle.std.proofs.Common.{◌≡◌, ◌≤◌, length, take, decimal}
use Rattle.ipam_block_text.proofs.decimals.shortened.Given as goal

-- the first digits are the same
abbrev pub invariant-digits : goal.invariant-digits
invariant-digits l = record {
  within : l.count ≤ length (decimal l.front);
  same : take l.count (decimal l.front) ≡ take l.count (decimal l.ordinal);
}

abbrev pub decreases-digits : goal.decreases-digits
decreases-digits l = l.front
