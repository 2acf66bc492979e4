use Rattle.std.proofs.Common.{◌∙◌}
use Rattle.ipam_choice.specs.Scanned.{sight_of}
use Rattle.ipam_choice.proofs.PoolLemmas.{with_block, sound_in}
use Rattle.ipam_choice.proofs.scan.Scan.first_with_block.Goals as goal

pub returns : goal.returns
returns c =
    let sight = sight_of c.args.self.now in
    let pool = c.args.pool.now in
    let list = c.part_in-blocks.result.now in
    c.first_listed.ensures.value
    ∙ with_block sight c.args.level pool c.blocks_for.result.now list c.blocks_for.ensures.all c.requires c.part_in-blocks.ensures.ascending c.part_in-blocks.ensures.kept
    (λ x is. sound_in c.first_listed.result c.first_listed.ensures.sound x (c.first_listed.ensures.value ∙ is))
