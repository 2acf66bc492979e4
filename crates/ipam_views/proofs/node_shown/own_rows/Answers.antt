use Rattle.std.proofs.Common.{[], ◌∷◌, ◌++◌, map, refl, ap, ◌∙◌}
use Rattle.std.proofs.lemmas.List.{take_all}
use Rattle.ipam_show.proofs.Steps.{step_map}
use Rattle.ipam_views.specs.Node.{own_head, own_row, own_total}
use Rattle.ipam_views.proofs.node_shown.own_rows.Goals as goal

pub loop-count-preserved : goal.loop-count-preserved
loop-count-preserved c =
    let l = c.loop-count in
    let row = own_row c.args.store.now.store in
    step_map row (own_head ∷ []) c.args.counts.now l.count-index c.count-item.result (row c.count-item.result) l.rows.items c.add_own_row.new.rows.items c.count-item.is c.loop-count-test.true refl c.in_ok-add_own_row.ensures l.invariant

pub returns : goal.returns
returns c =
    let l = c.loop-count in
    let counts = c.args.counts.now in
    let row = own_row c.args.store.now.store in
    c.in_ok-add_own_total.ensures
    ∙ ap (λ rows. rows ++ own_total counts ∷ []) l.invariant
    ∙ ap (λ shown. own_head ∷ (map row shown ++ own_total counts ∷ [])) (take_all l.count-index counts c.loop-count-test.false)
