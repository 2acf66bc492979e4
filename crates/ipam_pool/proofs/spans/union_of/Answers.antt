use Rattle.std.proofs.Common.{◌≡◌, ℕ, rules}
use Rattle.std.proofs.lemmas.List.Sorted.{All-permutation, IsNonDecreasingBy-from_sort_by_key}
use Rattle.std.proofs.lemmas.Result.{IfOk-weaker}
use Rattle.ipam_pool.specs.Spans.{IsOrdered, spans_hold}
use Rattle.ipam_pool.specs.Union.{address_at, is_in_union}
use Rattle.ipam_pool.proofs.Members.{union_merged}
use Rattle.ipam_pool.proofs.spans.union_of.Goals as goal

pub merged-requires-clause-ordered : goal.merged-requires-clause-ordered
merged-requires-clause-ordered c =
    rw c.as_slice.ensures.value
    (All-permutation IsOrdered _ _ c.sort_unstable_by_key.ensures.permutation c.loop-reservation.invariant.ordered)

pub merged-requires-clause-ascending : goal.merged-requires-clause-ascending
merged-requires-clause-ascending c =
    rw c.as_slice.ensures.value
    (IsNonDecreasingBy-from_sort_by_key (λ s. s.first) _ c.sort_unstable_by_key.ensures.sorted (λ a r q k. search rules))

pub returns-clause-union : goal.returns-clause-union
returns-clause-union c =
    IfOk-weaker c.merged.result (λ v. (n : ℕ) → spans_hold v.items n ≡ spans_hold c.as_slice.result.now n) (λ v. (n : ℕ) → spans_hold v.items n ≡ is_in_union c.args.list.now (address_at c.args.family n))
    (λ v same n.
    union_merged c.args.list.now _ _ _ c.args.family v.items (rw c.as_slice.ensures.value at same) c.sort_unstable_by_key.ensures.permutation c.loop-reservation-test.false c.loop-reservation.invariant.held n)
    c.merged.ensures.held
