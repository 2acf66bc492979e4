-- Keys of a lower rank come first.
use Rattle.std.proofs.Common.{◌≡◌, ℕ, ◌<◌, ap, arith}
use Rattle.std.proofs.lemmas.Bool.Decides.{nat_tests}
use Rattle.std.specs.declared.cmp.Ordering.TheVariants.{Less}
use Rattle.std.specs.Ordering.{ordering_then, nat_cmp}
use Rattle.std.specs.Option.{option_cmp}
use Rattle.std.specs.Cmp.Lexicographic.{slice_cmp}
use Rattle.ipam_block.specs.Order.{cidr_cmp}
use Rattle.ipam_records.specs.declared.key.Key.{Key}
use Rattle.ipam_records.specs.KeyOrder.{key_cmp, key_rank, key_name, key_block}

lesser : (a b : ℕ) → a < b → nat_cmp a b ≡ Less
lesser a b h = grind (arith, nat_tests)

pub rank_below : (k l : Key) → key_rank k < key_rank l → key_cmp k l ≡ Less
rank_below k l h = ap (λ o. ordering_then o (ordering_then (slice_cmp nat_cmp (key_name k) (key_name l)) (option_cmp cidr_cmp (key_block k) (key_block l)))) (lesser _ _ h)
