use Rattle.std.proofs.Common.{[], ◌∷◌, ◌++◌, map, take, ap, sym, ◌∙◌}
use Rattle.ipam_model.specs.Opened.{text_of}
use Rattle.ipam_cluster.proofs.RowTexts.{one_more}
use Rattle.ipam_cluster.proofs.rows.row_texts.Goals as goal

pub loop-place-preserved : goal.loop-place-preserved
loop-place-preserved c =
    let rows = c.args.store.now.store.rows in
    let place = c.loop-place.place in
    c.in_ok-push.ensures.items
    ∙ ap (λ items. items ++ c.in_ok-row_text.field-0 ∷ []) c.loop-place.invariant
    ∙ ap (λ row. map text_of (take place rows) ++ row ∷ []) c.in_ok-row_text.ensures
    ∙ sym (one_more rows place (c.row-revision.result.0, c.row-revision.result.1.now) c.row-revision.ensures)
