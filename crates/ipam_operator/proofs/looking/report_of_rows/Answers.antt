use Rattle.std.proofs.Common.{Option, subst}
use Rattle.ipam_records.specs.Datastore.{Datastore}
use Rattle.ipam_operator.specs.Looking.{IsReportOn}
use Rattle.ipam_operator.proofs.looking.report_of_rows.Goals as goal

pub report_of-requires-clause-few_blocks : goal.report_of-requires-clause-few_blocks
report_of-requires-clause-few_blocks g c = λ κs within. rw c.in-Ok-Some.field-0-is at c.in-Ok-Some.ensures.few

pub returns-in-Ok-Some : goal.returns-in-Ok-Some
returns-in-Ok-Some g c =
    subst (λ (s : Option Datastore). IsReportOn c.report_of.result s)
    (rw c.in-Ok-Some.field-0-is at c.in-Ok-Some.ensures.store) c.report_of.ensures
