use Rattle.std.proofs.Common.{◌≡◌, ℕ, ◌<◌, ◌∙◌, ap, sym, length, take, arith}
use Rattle.std.proofs.lemmas.List.Sums.{fold_more}
use Rattle.std.proofs.lemmas.Option.{get_or_from_slice_get}
use Rattle.ipam_model.specs.Reads.{StoredRecord}
use Rattle.ipam_views.specs.Metrics.{last_of, later}
use Rattle.ipam_views.proofs.metrics.last_of.Goals as goal

pub loop-place-preserved : goal.loop-place-preserved
loop-place-preserved c =
    let l = c.loop-place in
    let rows = c.args.store.now.store.rows in
    let row : StoredRecord = (c.row.result.0, c.row.result.1.now) in
    let within : l.place < length rows = omega (arith, c.rows-place-end.ensures, c.loop-place-test.true) in
    let at = get_or_from_slice_get rows l.place row row c.row.ensures in
    let more = fold_more (λ (most : ℕ) (one : StoredRecord). later most one.0) 0 rows l.place row within in
    c.later-most.ensures
    ∙ ap (λ most. later most row.0) l.invariant
    ∙ ap (λ (one : StoredRecord). later (last_of (take l.place rows)) one.0) (sym at)
    ∙ sym more
