use Rattle.std.proofs.Common.{sym, ◌∙◌}
use Rattle.std.proofs.lemmas.Result.{on_ok_weaker}
use Rattle.ipam_operator.proofs.filling.settle.Goals as goal

pub returns-in-Ok-clause-settled : goal.returns-in-Ok-clause-settled
returns-in-Ok-clause-settled g c =
    on_ok_weaker c.close.result (λ d. c.close.ensures.same_settled ∙ c.in-Ok.ensures.done ∙ sym c.close.ensures.same_rows) c.close.ensures.closed
