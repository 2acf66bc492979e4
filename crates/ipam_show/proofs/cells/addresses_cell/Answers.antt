use Rattle.std.proofs.Common.{◌≡◌, ◌∙◌, ◌^◌, ◌++◌, ap, sym, codes, decimal, arith, rules}
use Rattle.std.proofs.lemmas.Fmt.{decimal_step_wide}
use Rattle.std.proofs.lemmas.Result.{IfOk-weaker}
use Rattle.ipam_addr.specs.Width.{cidr_size}
use Rattle.ipam_show.proofs.cells.addresses_cell.Goals as goal

pub returns-in-None : goal.returns-in-None
returns-in-None c =
    let size : cidr_size c.args.cidr ≡ 2 ^ 128 = c.in-None.ensures.none (search rules) in
    let digits : decimal (2 ^ 128) ≡ decimal 34028236692093846346337460743176821145 ++ codes "6" =
    decimal_step_wide (2 ^ 128) (omega arith) (omega arith) in
    IfOk-weaker c.cell_before_six.result _ _ (λ text is. is ∙ (sym digits ∙ sym (ap decimal size))) c.cell_before_six.ensures
