use Rattle.std.proofs.Common.{◌≡◌, ◌≤◌, ◌∙◌, true, arith, rules}
use Rattle.std.specs.Vec.{vec_capacity}
use Rattle.std.specs.VecDeque.{deque_capacity}
use Rattle.ipam_addr.specs.Width.{IsCidr}
use Rattle.ipam_block.specs.Test.{is_block, content_of}
use Rattle.ipam_block.proofs.Tested.{is_block-true, IsBlock-same}
use Rattle.ipam_block.proofs.block_record.Block.of_parts.Goals as goal

pub invariant_of-result : goal.invariant_of-result
invariant_of-result c =
    let range : IsCidr c.args.cidr = search rules in
    let content = content_of c.args.cidr c.args.node c.args.allocations.items c.args.queue.items c.args.sequence in
    let passed : is_block content ≡ true = search rules in
    let whole = is_block-true content range c.requires passed in
    let held_room : c.count_of-count.result ≤ vec_capacity c.in-Ok.held = c.in-Ok.ensures.held_room in
    let queue_room : c.count_of-count.result ≤ deque_capacity c.in-Ok.queue = search rules in
    (omega arith, omega arith, IsBlock-same c.args.cidr c.args.node _ _ _ _ c.args.sequence c.in-Ok.ensures.allocations (c.in-Ok.ensures.queue ∙ c.as_slice-3.ensures.value) whole)
