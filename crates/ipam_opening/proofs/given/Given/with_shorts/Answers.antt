use Rattle.std.proofs.Common.{◌≡◌, ◌+◌, List, ◌∷◌, Option, ℕ, drop, sym, ap, ◌∙◌, subst, arith}
use Rattle.std.proofs.lemmas.List.{drop_more}
use Rattle.ipam_block.specs.declared.allocation.Allocation.{Allocation}
use Rattle.ipam_model.specs.Opened.{readable}
use Rattle.ipam_opening.specs.Counts.{with_shorts}
use Rattle.ipam_opening.proofs.given.Given.with_shorts.Goals as goal

pub loop-allocation-preserved : goal.loop-allocation-preserved
loop-allocation-preserved c =
    let rows = readable c.args.self.now.rows.now in
    let block = c.args.block.now in
    let items = c.allocations-allocation-items.result.now in
    let item = c.allocation-item.result in
    let i = c.loop-allocation.allocation-index in
    let here : drop i items ≡ item ∷ drop (i + 1) items = drop_more items i item (omega arith) ∙ ap (λ a. a ∷ drop (i + 1) items) (sym c.allocation-item.is) in
    let left : drop i block.allocations ≡ item ∷ drop (i + 1) block.allocations =
    subst (λ (l : List Allocation). drop i l ≡ item ∷ drop (i + 1) l) c.allocations-allocation-items.ensures here in
    ap (λ (f : Option (List ℕ)). with_shorts rows block f (drop (i + 1) block.allocations)) (rw c.get.ensures at c.in_ok-first.ensures)
    ∙ sym (ap (with_shorts rows block c.loop-allocation.first) left)
    ∙ c.loop-allocation.invariant
