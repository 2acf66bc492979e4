use Rattle.std.proofs.Common.{[], ◌∷◌, map, ◌∙◌, ap, refl}
use Rattle.std.proofs.lemmas.List.{take_all}
use Rattle.ipam_show.proofs.Steps.{step_map}
use Rattle.ipam_views.specs.Handle.{high_head, high_row}
use Rattle.ipam_views.proofs.handle_shown.high_rows.Goals as goal

pub loop-high-preserved : goal.loop-high-preserved
loop-high-preserved c =
    let l = c.loop-high in
    step_map high_row (high_head ∷ []) c.args.counts.now l.high-index c.high-item.result (high_row c.high-item.result) l.rows.items c.add_high_row.new.rows.items c.high-item.is c.loop-high-test.true refl c.in_ok-add_high_row.ensures l.invariant

pub returns : goal.returns
returns c =
    let l = c.loop-high in
    l.invariant ∙ ap (λ counts. high_head ∷ map high_row counts) (take_all l.high-index c.args.counts.now c.loop-high-test.false)
