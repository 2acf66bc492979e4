use Rattle.std.proofs.Common.{◌∙◌, arith}
use Rattle.ipam_select.specs.Formula.{disjunction}
use Rattle.ipam_select.proofs.Ascending.{one_or_one, one_or_more, formula-Or}
use Rattle.ipam_select.proofs.reading.one_or_any.Goals as goal

pub returns-then-len-eq1 : goal.returns-then-len-eq1
returns-then-len-eq1 c = one_or_one disjunction c.args.members.items c.remove.result (omega (arith, c.args.members.ok.0)) c.remove.ensures.value

pub returns : goal.returns
returns c = formula-Or c.args.members ∙ one_or_more disjunction c.args.members.items (λ one. c.if-len-eq1.false (omega (arith, c.args.members.ok.0)))
