use Rattle.std.proofs.lemmas.Grind.{flat_map-append}
use Rattle.ipam_commands.specs.Reported.{excess_of, excess_in}
use Rattle.ipam_show.proofs.Steps.{step_page}
use Rattle.ipam_commands.proofs.audit_excess.excess_in.Goals as goal

pub loop-page-preserved : goal.loop-page-preserved
loop-page-preserved c =
    let value = rw c.deref.ensures.value at c.in_ok-add_of_rows.ensures in
    step_page (excess_in c.args.store.now.store) (flat_map-append (λ row. excess_of c.args.store.now.store row.1)) _ _ _ c.page-item.is c.loop-page-test.true _ _ _ c.loop-page.invariant value
