use Rattle.std.proofs.Common.{ℕ, refl}
use Rattle.ipam_records.specs.declared.record.Record.{Record}
use Rattle.ipam_words.specs.Views.{chosen_by}
use Rattle.ipam_show.specs.InUse.{uses_in, uses_of_record}
use Rattle.ipam_show.proofs.Steps.{step_list}
use Rattle.ipam_show.proofs.in_use.add_of_rows.Goals as goal

pub loop-row-preserved : goal.loop-row-preserved
loop-row-preserved c =
    let chosen = chosen_by c.args.chosen.now in
    step_list (uses_in chosen) (λ (row : ℕ × Record). uses_of_record chosen row.1) (λ x xs. refl) _ _ _ c.row-item.is c.loop-row-test.true _ _ _ c.loop-row.invariant c.in_ok-add_of_record.ensures
