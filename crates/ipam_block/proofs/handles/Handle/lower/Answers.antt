use Rattle.std.proofs.Common.{◌≡◌, ◌-◌, ap, ◌∙◌, arith}
use Rattle.ipam_block.specs.HandleOperations.{count_in, count_of}
use Rattle.ipam_block.proofs.Reading.{count_in-here, count_in-elsewhere, unlisted}
use Rattle.ipam_block.proofs.handles.Handle.lower.Goals as goal

pub returns-clause-here : goal.returns-clause-here
returns-clause-here c =
    let left : count_in c.change_count.new.counts.items c.args.cidr ≡ c.count.result - c.args.by = ap (λ l. count_in l c.args.cidr) c.change_count.ensures.items ∙ count_in-here _ c.self.invariant _ _ in
    rw (left, ← c.count.ensures.value) (omega (arith, c.count.ensures.value))

pub returns-clause-elsewhere : goal.returns-clause-elsewhere
returns-clause-elsewhere c other differs =
    ap (λ l. count_in l other) c.change_count.ensures.items
    ∙ count_in-elsewhere _ c.self.invariant _ _ other differs
    ∙ ap (λ h. count_of h other) c.self.view_is

pub returns-clause-gone : goal.returns-clause-gone
returns-clause-gone c all =
    let left = returns-clause-here c in
    unlisted _ c.change_count.ensures.sound _ (omega arith)
