use Rattle.ipam_parts.proofs.FreeingLemmas.{read_counted}
use Rattle.std.proofs.Common.{◌∙◌, sym, ap}
use Rattle.ipam_parts.specs.Reading.{lent_block}
use Rattle.ipam_parts.proofs.freeing.Freeing.read.Goals as goal

pub found-requires : goal.found-requires
found-requires c =
    read_counted c.args.id.now c.args.self.now.cidr c.args.self.now.picks c.args.self.now.left _ c.in-Some.revision
    c.in-Some.found.now c.requires (sym c.block_in.ensures ∙ ap lent_block c.in-Some.is)
