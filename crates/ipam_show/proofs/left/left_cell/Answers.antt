use Rattle.std.proofs.Common.{◌≡◌, ◌∙◌, ◌^◌, ◌++◌, ap, sym, codes, decimal, arith, rules}
use Rattle.std.proofs.lemmas.Fmt.{decimal_step_wide}
use Rattle.std.proofs.lemmas.Result.{IfOk-weaker}
use Rattle.ipam_show.specs.Left.{blocks_left}
use Rattle.ipam_show.proofs.left.left_cell.Goals as goal

pub returns-in-None : goal.returns-in-None
returns-in-None c =
    let none = c.in-None.ensures.none (search rules) in
    let last = c.last_slot.ensures in
    let taken = c.block_sum-taken.ensures in
    let left : blocks_left c.args.counts.now c.args.pool.now ≡ 2 ^ 128 = omega arith in
    let digits : decimal (2 ^ 128) ≡ decimal 34028236692093846346337460743176821145 ++ codes "6" =
    decimal_step_wide (2 ^ 128) (omega arith) (omega arith) in
    IfOk-weaker c.cell_before_six.result _ _ (λ text is. is ∙ (sym digits ∙ sym (ap decimal left))) c.cell_before_six.ensures
