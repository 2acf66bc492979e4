use Rattle.std.proofs.Common.{ℕ}
use Rattle.std.proofs.lemmas.List.Elements.{filter_map-append}
use Rattle.ipam_records.specs.declared.record.Record.{Record}
use Rattle.ipam_commands.specs.Reported.{stale_of, stale_in}
use Rattle.ipam_show.proofs.Steps.{step_page}
use Rattle.ipam_commands.proofs.audit_affinities.stale.Goals as goal

pub loop-page-preserved : goal.loop-page-preserved
loop-page-preserved c =
    let value = rw c.deref.ensures.value at c.in_ok-add_stale.ensures in
    step_page (stale_in) (filter_map-append (λ (row : ℕ × Record). stale_of row.1)) _ _ _ c.page-item.is c.loop-page-test.true _ _ _ c.loop-page.invariant value
