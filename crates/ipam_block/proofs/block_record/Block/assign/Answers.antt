use Rattle.std.proofs.Common.{arith, sym}
use Rattle.ipam_block.proofs.Assigning.{few_held, IsBlock-assigned}
use Rattle.ipam_block.proofs.block_record.Block.assign.Goals as goal

pub insert_reserved-requires-clause-room : goal.insert_reserved-requires-clause-room
insert_reserved-requires-clause-room c =
    let free = rw c.as_slice.ensures.value at (sym c.in-Err.ensures.held) in
    let own = rw (← c.self.view_is) at c.requires.own in
    let few = few_held _ _ c.self.invariant.2 own free in
    omega arith

pub invariant_of-self : goal.invariant_of-self
invariant_of-self c =
    let free = rw c.as_slice.ensures.value at (sym c.in-Err.ensures.held) in
    let own = rw (← c.self.view_is) at c.requires.own in
    let written = rw (← c.self.view_is) at c.requires.written in
    let whole = IsBlock-assigned _ _ c.args.attributes c.self.invariant.2 own written free in
    let place = rw c.as_slice.ensures.value at c.in-Err.ensures.lower in
    (omega arith, omega arith, rw (c.take_from.ensures.items, c.insert_reserved.ensures.items, c.of.ensures, place) whole)
