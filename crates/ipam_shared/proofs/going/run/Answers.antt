use Rattle.std.proofs.Common.{inl, inr}
use Rattle.ipam_shared.proofs.Ending.{on-err}
use Rattle.ipam_shared.proofs.going.run.Goals as goal

pub returns-in-Ok-clause-ended : goal.returns-in-Ok-clause-ended
returns-in-Ok-clause-ended g c = (c.begin.new.kept, c.in_ok-begin.ensures.begins, c.in-Ok.ensures.ended)

pub returns-in-Err-clause-wants : goal.returns-in-Err-clause-wants
returns-in-Err-clause-wants g c = inr (c.begin.new.kept, c.go_on.new.kept, c.in_ok-begin.ensures.begins, c.in-Err.ensures.wants, c.stop.ensures)

pub returns-in_err-begin-clause-wants : goal.returns-in_err-begin-clause-wants
returns-in_err-begin-clause-wants g c = on-err c.from_residual.result (inl c.in_err-begin.ensures.unbegun)
