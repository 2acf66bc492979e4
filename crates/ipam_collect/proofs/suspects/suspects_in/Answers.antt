use Rattle.std.proofs.Common.{◌∙◌, ◌++◌, ap}
use Rattle.ipam_model.specs.Remove.{suspects}
use Rattle.ipam_collect.proofs.SuspectLemmas.{one_page_more}
use Rattle.ipam_collect.proofs.suspects.suspects_in.Goals as goal

pub loop-page-preserved : goal.loop-page-preserved
loop-page-preserved c =
    let added = c.in_ok-push_page.ensures ∙ ap (λ rows. c.loop-page.found ++ suspects c.args.request.now rows) c.deref.ensures.value in
    one_page_more c.args.request.now _ _ _ c.loop-page.page-index c.page-item.result c.page-item.is c.loop-page-test.true added
    ∙ c.loop-page.invariant
