use Rattle.std.proofs.Common.{ℕ, sym, refl, append-nil}
use Rattle.ipam_records.specs.declared.record.Record.{Record}
use Rattle.ipam_pool.specs.Spans.{is_reserved_by}
use Rattle.ipam_show.specs.Counts.{block_count_in}
use Rattle.ipam_show.proofs.Steps.{step_option}
use Rattle.ipam_show.proofs.counting.add_counts.Goals as goal
use Rattle.ipam_show.proofs.counting.add_counts.Goals.{in-Some+in_ok-push, in_default}

pub loop-row-preserved : goal.loop-row-preserved
loop-row-preserved c =
    let next = step_option (λ (row : ℕ × Record). block_count_in (is_reserved_by c.args.reserved.now) row.1) c.args.rows.now c.loop-row.row-index c.row-item.result c.row-item.is c.loop-row-test.true c.in_ok-count.field-0 c.in_ok-count.ensures c.loop-row.counts.items in
    elim c.match-branch-2.branch [
      | in-Some+in_ok-push w ↦
          let one = w.in-Some.is in
          let pushed = w.in_ok-push.ensures.items in
          next _ _ c.loop-row.invariant (rw (w.counts-is, pushed, one) refl)
      | in_default w ↦
          let none = w.in_default.is in
          next _ _ c.loop-row.invariant (rw (w.counts-is, none) (sym (append-nil c.loop-row.counts.items)))
    ]
