use Rattle.std.proofs.Common.{ltb, ltb-true, ltb-false, arith, rules}
use Rattle.std.proofs.lemmas.List.Sorted.{IsPartitionPoint-from_clause, IsPartitionedBy-ltb}
use Rattle.ipam_pool.proofs.Gaps.{lasts_ascend}
use Rattle.ipam_pool.proofs.spans.ends_below.Goals as goal

pub returns-clause-before : goal.returns-clause-before
returns-clause-before c =
    let parted = IsPartitionedBy-ltb (λ s. s.last) _ c.args.number (lasts_ascend _ c.requires) in
    let point = IsPartitionPoint-from_clause (λ s. ltb s.last c.args.number) _ _ c.partition_point.ensures.partitioned parted (λ a r q k. search rules) in
    λ k d h. ltb-true _ _ (point.0 k d (omega arith) h)

pub returns-clause-behind : goal.returns-clause-behind
returns-clause-behind c =
    let parted = IsPartitionedBy-ltb (λ s. s.last) _ c.args.number (lasts_ascend _ c.requires) in
    let point = IsPartitionPoint-from_clause (λ s. ltb s.last c.args.number) _ _ c.partition_point.ensures.partitioned parted (λ a r q k. search rules) in
    λ k d back within. ltb-false _ _ (point.1 k d back within)
