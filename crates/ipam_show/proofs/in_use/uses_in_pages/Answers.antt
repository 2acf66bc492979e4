use Rattle.std.proofs.lemmas.Grind.{flat_map-append}
use Rattle.ipam_words.specs.Views.{chosen_by}
use Rattle.ipam_show.specs.InUse.{uses_in, uses_of_record}
use Rattle.ipam_show.proofs.Steps.{step_page}
use Rattle.ipam_show.proofs.in_use.uses_in_pages.Goals as goal

pub loop-page-preserved : goal.loop-page-preserved
loop-page-preserved c =
    let chosen = chosen_by c.args.chosen.now in
    let value = rw c.deref.ensures.value at c.in_ok-add_of_rows.ensures in
    step_page (uses_in chosen) (flat_map-append (λ row. uses_of_record chosen row.1)) _ _ _ c.page-item.is c.loop-page-test.true _ _ _ c.loop-page.invariant value
