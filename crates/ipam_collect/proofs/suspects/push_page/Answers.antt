use Rattle.std.proofs.Common.{◌∙◌, ◌++◌, ap, append_assoc, take}
use Rattle.ipam_model.specs.Remove.{suspects, leaks_in_row}
use Rattle.ipam_collect.proofs.SuspectLemmas.{one_row_more}
use Rattle.ipam_collect.proofs.suspects.push_page.Goals as goal

pub loop-row-preserved : goal.loop-row-preserved
loop-row-preserved c =
    let request = c.args.request.now in
    let page = c.args.page.now in
    let row = c.row-item.result in
    let seen = suspects request (take c.loop-row.row-index page) in
    c.in_ok-push_row.ensures row.0
    ∙ (ap (λ found. found ++ leaks_in_row request row) c.loop-row.invariant
    ∙ (append_assoc c.args.found.now seen (leaks_in_row request row)
    ∙ ap (λ more. c.args.found.now ++ more) (one_row_more request page c.loop-row.row-index row c.row-item.is c.loop-row-test.true)))
