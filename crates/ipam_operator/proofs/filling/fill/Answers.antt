use Rattle.std.proofs.Common.{◌∙◌}
use Rattle.std.proofs.lemmas.Result.{on_ok_weaker}
use Rattle.ipam_operator.proofs.filling.fill.Goals as goal

pub returns-in-Ok-clause-filled : goal.returns-in-Ok-clause-filled
returns-in-Ok-clause-filled g c = on_ok_weaker c.settle.result (λ d. c.settle.ensures.same_rows ∙ c.in-Ok.ensures.filled) c.settle.ensures.closed
