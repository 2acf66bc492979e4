use Rattle.std.proofs.Common.{ℕ, sym, ap, ◌∙◌}
use Rattle.ipam_addr.specs.Shape.{CidrValue}
use Rattle.ipam_block.proofs.Reading.{listed}
use Rattle.ipam_block.proofs.Search.{count_in-place, count_in-gap}
use Rattle.ipam_block.proofs.handles.Handle.count.Goals as goal

pub returns-in-Ok-clause-value : goal.returns-in-Ok-clause-value
returns-in-Ok-clause-value c =
    let place = rw c.deref.ensures.value at c.in-Ok.ensures.found in
    let read = count_in-place _ c.self.invariant _ _ c.index.result.now place in
    rw (← c.self.view_is) (ap (λ (e : CidrValue × ℕ). e.1) c.index.ensures ∙ sym read)

pub returns-in-Ok-clause-listed : goal.returns-in-Ok-clause-listed
returns-in-Ok-clause-listed c = rw (returns-in-Ok-clause-value c, ← c.self.view_is) (listed _ c.self.invariant _)

pub returns-in-Err-clause-value : goal.returns-in-Err-clause-value
returns-in-Err-clause-value c =
    let gap = rw c.deref.ensures.value at c.in-Err.ensures.absent in
    rw (← c.self.view_is) (sym (count_in-gap _ c.self.invariant _ _ gap))

pub returns-in-Err-clause-listed : goal.returns-in-Err-clause-listed
returns-in-Err-clause-listed c = rw (returns-in-Err-clause-value c, ← c.self.view_is) (listed _ c.self.invariant _)
