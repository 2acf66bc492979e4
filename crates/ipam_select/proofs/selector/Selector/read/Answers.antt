use Rattle.std.proofs.lemmas.Result.{IfOk-weaker}
use Rattle.ipam_select.specs.Formula.{formula}
use Rattle.ipam_select.specs.Printing.{printed}
use Rattle.ipam_select.proofs.Exact.{read_as, read_as-reading, read_again, are_short, unreadable, too_long}
use Rattle.ipam_select.proofs.Whole.{reading_sound}
use Rattle.ipam_select.proofs.selector.Selector.read.Goals as goal

pub returns-clause-ok : goal.returns-clause-ok
returns-clause-ok c = IfOk-weaker c.read_text.result _ _ (λ s h. read_as-reading c.args.text.now (formula s) h.0) c.read_text.ensures.ok

pub returns-clause-short : goal.returns-clause-short
returns-clause-short c = IfOk-weaker c.read_text.result _ _ (λ s h. are_short c.args.text.now (formula s) h.1 h.2) c.read_text.ensures.ok

pub returns-clause-again : goal.returns-clause-again
returns-clause-again c =
    IfOk-weaker c.read_text.result _ _ (λ s h. read_as (printed (formula s)) (formula s) (read_again c.args.text.now (formula s) (reading_sound c.args.text.now (formula s) h.0))) c.read_text.ensures.ok

pub returns-clause-form : goal.returns-clause-form
returns-clause-form c = λ is. unreadable c.args.text.now (c.read_text.ensures.form is)

pub returns-clause-long : goal.returns-clause-long
returns-clause-long c = λ is. too_long c.args.text.now (c.read_text.ensures.long is)
