use Rattle.std.proofs.Common.{[], ◌∷◌, map, ◌∙◌, ap, refl}
use Rattle.std.proofs.lemmas.List.{take_all}
use Rattle.ipam_words.specs.Views.{chosen_by}
use Rattle.ipam_show.specs.Addresses.{use_head, use_row}
use Rattle.ipam_show.proofs.Steps.{step_map}
use Rattle.ipam_show.proofs.addresses_shown.use_rows.Goals as goal

pub loop-used-preserved : goal.loop-used-preserved
loop-used-preserved c =
    let l = c.loop-used in
    let chosen = chosen_by c.args.chosen.now in
    step_map (use_row chosen) (use_head chosen ∷ []) c.args.uses.now l.used-index c.used-item.result (use_row chosen c.used-item.result) l.rows.items c.add_use_row.new.rows.items c.used-item.is c.loop-used-test.true refl c.in_ok-add_use_row.ensures l.invariant

pub returns : goal.returns
returns c =
    let l = c.loop-used in
    let chosen = chosen_by c.args.chosen.now in
    l.invariant ∙ ap (λ uses. use_head chosen ∷ map (use_row chosen) uses) (take_all l.used-index c.args.uses.now c.loop-used-test.false)
