use Rattle.std.proofs.Common.{arith, ap, length, refl, not}
use Rattle.std.proofs.lemmas.List.Sums.{length-filter}
use Rattle.std.proofs.lemmas.List.Filters.{length-filter_both}
use Rattle.ipam_block.specs.Picked.{picks}
use Rattle.ipam_block.proofs.Ordinals.{shared_count}
use Rattle.ipam_block.proofs.Freeing.{IsBlock-freed}
use Rattle.ipam_block.proofs.block_record.Block.free.Goals as goal

pub queue_picked-requires : goal.queue_picked-requires
queue_picked-requires c =
    let both = shared_count _ c.self.invariant.2 in
    let held = ap length c.as_slice.ensures.value in
    omega arith

pub overflow_sub-result : goal.overflow_sub-result
overflow_sub-result c =
    let both = length-filter_both (picks c.args.which.now) (λ a. not (picks c.args.which.now a)) (λ _. refl) c.self.inside.held.items in
    let kept = ap length c.drop_picked.ensures.items in
    omega arith

pub invariant_of-self : goal.invariant_of-self
invariant_of-self c =
    (omega arith, omega arith, rw (c.drop_picked.ensures.items, c.queue_picked.ensures.items, c.as_slice.ensures.value) (IsBlock-freed _ _ c.self.invariant.2))

pub returns-clause-count : goal.returns-clause-count
returns-clause-count c =
    let both = length-filter_both (picks c.args.which.now) (λ a. not (picks c.args.which.now a)) (λ _. refl) c.self.inside.held.items in
    let gone = length-filter (picks c.args.which.now) c.self.inside.held.items in
    let kept = ap length c.drop_picked.ensures.items in
    rw (← c.self.view_is) (omega arith)

pub returns-clause-few : goal.returns-clause-few
returns-clause-few c =
    let both = shared_count _ c.self.invariant.2 in
    omega (arith, c.self.invariant.2.small)
