use Rattle.std.proofs.Common.{Ok, Err, rules}
use Rattle.ipam_show.specs.Rows.{rows_text}
use Rattle.ipam_operator.proofs.RowsSaying.{fault_says}
use Rattle.ipam_operator.proofs.getting.get.Goals as goal

pub returns-in-Ok-clause-told : goal.returns-in-Ok-clause-told
returns-in-Ok-clause-told g c =
    let asked = c.in-Ok.ensures.asked in
    (asked.0, Ok c.in-Ok.rows.items, asked.1, asked.2, asked.3, c.tell_made.ensures.written (rows_text c.args.kind c.in-Ok.rows.items) (search rules))

pub returns-in-Err-clause-told : goal.returns-in-Err-clause-told
returns-in-Err-clause-told g c =
    let asked = c.in-Err.ensures.asked in
    (asked.0, Err c.in-Err.fault, asked.1, asked.2, asked.3, fault_says _ _ _ _ _ _ _ _ c.tell_fault.ensures.told)
