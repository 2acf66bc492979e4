use Rattle.std.proofs.Common.{ℕ, sym, refl, append-nil}
use Rattle.ipam_records.specs.declared.record.Record.{Record}
use Rattle.ipam_commands.specs.Reported.{stale_of}
use Rattle.ipam_show.proofs.Steps.{step_option}
use Rattle.ipam_commands.proofs.audit_affinities.add_stale.Goals as goal
use Rattle.ipam_commands.proofs.audit_affinities.add_stale.Goals.{in-Some+in_ok-push, in_default}

pub loop-row-preserved : goal.loop-row-preserved
loop-row-preserved c =
    let next = step_option (λ (row : ℕ × Record). stale_of row.1) c.args.rows.now c.loop-row.row-index c.row-item.result c.row-item.is c.loop-row-test.true c.in_ok-affinity.field-0 c.in_ok-affinity.ensures c.loop-row.found.items in
    elim c.match-branch-2.branch [
      | in-Some+in_ok-push w ↦
          let affinity = w.in-Some.is in
          let pushed = w.in_ok-push.ensures.items in
          next _ _ c.loop-row.invariant (rw (w.found-is, pushed, affinity) refl)
      | in_default w ↦
          let none = w.in_default.is in
          next _ _ c.loop-row.invariant (rw (w.found-is, none) (sym (append-nil c.loop-row.found.items)))
    ]
