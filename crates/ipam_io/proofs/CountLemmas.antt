-- What the words for counts mean.
use Rattle.std.proofs.Common.{ℕ, ◌-◌, ◌^◌, ◌≤◌, ◌↔◌, arith}
use Rattle.ipam_io.specs.Counts.{Rose, IsHigherOrAtTop}

-- a count that never falls and fits 64 bits rose exactly where it is higher, or stands at the top
pub Rose-iff : (before after : ℕ) → before ≤ after → after ≤ 2 ^ 64 - 1 → Rose before after ↔ IsHigherOrAtTop before after
Rose-iff before after never_falls fits = (λ rose. grind arith, λ higher. grind arith)
