use Rattle.std.proofs.Common.{[], ◌∷◌, map, ◌∙◌, ap, refl}
use Rattle.std.proofs.lemmas.List.{take_all}
use Rattle.ipam_show.specs.Blocks.{block_head, block_row}
use Rattle.ipam_show.proofs.Steps.{step_map}
use Rattle.ipam_show.proofs.blocks_shown.block_rows.Goals as goal

pub loop-count-preserved : goal.loop-count-preserved
loop-count-preserved c =
    let l = c.loop-count in
    step_map (block_row c.args.store.now.store) (block_head ∷ []) c.args.counts.now l.count-index c.count-item.result (block_row c.args.store.now.store c.count-item.result) l.rows.items c.add_block_row.new.rows.items c.count-item.is c.loop-count-test.true refl c.in_ok-add_block_row.ensures l.invariant

pub returns : goal.returns
returns c =
    let l = c.loop-count in
    l.invariant ∙ ap (λ counts. block_head ∷ map (block_row c.args.store.now.store) counts) (take_all l.count-index c.args.counts.now c.loop-count-test.false)
