use Rattle.std.proofs.Common.{◌∙◌}
use Rattle.ipam_choice.proofs.ConfirmedLemmas.{row_passed}
use Rattle.ipam_choice.proofs.confirmed.Confirmed.add_page.Goals as goal

pub loop-row-preserved : goal.loop-row-preserved
loop-row-preserved c cidr =
    row_passed c.args.node.now cidr c.args.page.now c.loop-row.row-index c.row-item.result c.row-item.is c.loop-row-test.true _ _ (c.in_ok-add_confirmed.ensures cidr)
    ∙ c.loop-row.invariant cidr
