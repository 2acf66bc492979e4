use Rattle.std.proofs.Common.{ℕ}
use Rattle.std.proofs.lemmas.List.Elements.{filter_map-append}
use Rattle.ipam_records.specs.declared.record.Record.{Record}
use Rattle.ipam_pool.specs.Spans.{is_reserved_by}
use Rattle.ipam_show.specs.Counts.{block_count_in, counts_in}
use Rattle.ipam_show.proofs.Steps.{step_page}
use Rattle.ipam_show.proofs.counting.counts_in_pages.Goals as goal

pub loop-page-preserved : goal.loop-page-preserved
loop-page-preserved c =
    let reserved = is_reserved_by c.args.reserved.now in
    let value = rw c.deref.ensures.value at c.in_ok-add_counts.ensures in
    step_page (counts_in reserved) (filter_map-append (λ (row : ℕ × Record). block_count_in reserved row.1)) _ _ _ c.page-item.is c.loop-page-test.true _ _ _ c.loop-page.invariant value
