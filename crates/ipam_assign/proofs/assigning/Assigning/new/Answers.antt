use Rattle.ipam_model.specs.Counting.{raise}
use Rattle.ipam_assign.proofs.AssigningLemmas.{begins}
use Rattle.std.proofs.Common.{◌∙◌, ap}
use Rattle.ipam_assign.proofs.assigning.Assigning.new.Goals as goal

pub returns : goal.returns
returns c =
    begins c.args.attributes.now c.args.revision c.args.block.now c.in_ok-block.block c.args.ordinal c.args.left _
    (c.new.ensures c.args.attributes.now.handle
    ∙ ap (λ cidr. raise c.args.attributes.now.handle cidr c.args.left) c.cidr-cidr.ensures.value)
    c.in_ok-block.ensures
