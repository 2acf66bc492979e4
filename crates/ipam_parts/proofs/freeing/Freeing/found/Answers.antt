use Rattle.ipam_block.specs.Operations.{block_without}
use Rattle.ipam_block.specs.Shape.{BlockValue}
use Rattle.ipam_parts.proofs.FreeingLemmas.{frees_some}
use Rattle.ipam_parts.specs.Freeing.{picked}
use Rattle.std.proofs.Common.{◌∙◌, ap}
use Rattle.std.specs.List.{count_by}
use Rattle.ipam_parts.proofs.freeing.Freeing.found.Goals as goal

pub returns : goal.returns
returns c =
    frees_some c.args.id.now c.args.self.now.cidr c.args.self.now.picks c.args.self.now.left c.args.revision
    c.args.found.now c.of-freed.result c.freed_in-count.result
    (c.freed_in-count.ensures.count
    ∙ ap (λ (b : BlockValue). count_by (picked c.args.id.now c.args.self.now.picks) b.allocations) c.in_ok-block.ensures)
    c.if-count-eq0.false
    (c.of-freed.ensures.block ∙ c.freed_in-count.ensures.freed
    ∙ ap (block_without (picked c.args.id.now c.args.self.now.picks)) c.in_ok-block.ensures)
    c.of-freed.ensures.revision c.of-freed.ensures.amount
