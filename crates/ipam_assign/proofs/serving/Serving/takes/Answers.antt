use Rattle.ipam_model.specs.Assigning.{target_in}
use Rattle.ipam_assign.specs.Serving.{going}
use Rattle.ipam_assign.proofs.ServingLemmas.{takes_at}
use Rattle.ipam_assign.proofs.serving.Serving.takes.Goals as goal

pub returns : goal.returns
returns c =
    takes_at (going c.args.request.now c.args.self.now) c.args.self.now.left c.args.scan
    (target_in (c.args.revision, c.args.block.now) c.args.ordinal) c.of-spot.result c.in_ok-assigning.assigning
    c.of-spot.ensures.scan c.of-spot.ensures.place c.in_ok-assigning.ensures
