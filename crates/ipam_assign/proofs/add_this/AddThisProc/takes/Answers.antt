use Rattle.std.proofs.Common.{◌∙◌, ap}
use Rattle.ipam_model.specs.Assigning.{assign, target_in}
use Rattle.ipam_assign.specs.AddThis.{this_going}
use Rattle.ipam_assign.proofs.AddThisLemmas.{takes_at}
use Rattle.ipam_assign.proofs.add_this.AddThisProc.takes.Goals as goal

pub returns : goal.returns
returns c =
    takes_at (this_going c.args.self.now) c.args.self.now.left c.args.ruled.now c.args.moment c.args.revision
    c.args.block.now c.looked_with-looked.result c.in_ok-assigning.assigning c.looked_with-looked.ensures.looked
    c.looked_with-looked.ensures.address
    (c.in_ok-assigning.ensures
    ∙ ap (λ o. assign c.args.self.now.request.attributes (target_in (c.args.revision, c.args.block.now) o) c.args.self.now.left)
    c.ordinal-ordinal.ensures.value)
