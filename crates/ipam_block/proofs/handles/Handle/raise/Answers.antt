use Rattle.std.proofs.Common.{◌≡◌, ◌+◌, ap, ◌∙◌, rules}
use Rattle.ipam_block.specs.HandleOperations.{count_in, count_of}
use Rattle.ipam_block.proofs.Reading.{count_in-here, count_in-elsewhere}
use Rattle.ipam_block.proofs.handles.Handle.raise.Goals as goal

pub returns-clause-here : goal.returns-clause-here
returns-clause-here c =
    let put : count_in c.put_count.new.counts.items c.args.cidr ≡ c.in-Some.sum = ap (λ l. count_in l c.args.cidr) c.in_ok-put_count.ensures.ok ∙ count_in-here _ c.self.invariant _ _ in
    let sum : c.in-Some.sum ≡ c.count.result + c.args.by = search rules in
    put ∙ sum ∙ ap (λ n. n + c.args.by) c.count.ensures.value

pub returns-clause-elsewhere : goal.returns-clause-elsewhere
returns-clause-elsewhere c other differs =
    ap (λ l. count_in l other) c.in_ok-put_count.ensures.ok
    ∙ count_in-elsewhere _ c.self.invariant _ _ other differs
    ∙ ap (λ h. count_of h other) c.self.view_is
