use Rattle.std.proofs.Common.{arith}
use Rattle.ipam_model.specs.Owners.{owners_in_row}
use Rattle.ipam_commands.proofs.AuditSteps.{count_step}
use Rattle.ipam_commands.proofs.audit_counted.owners_in_rows.Goals as goal

pub overflow_add-count : goal.overflow_add-count
overflow_add-count c =
    let next = count_step owners_in_row c.args.rows.now c.loop-row.row-index c.row-item.result c.row-item.is c.loop-row-test.true in
    let found = c.owners_in_record.ensures c.row-item.result.0 in
    let so_far = c.loop-row.invariant in
    let few = c.requires in
    omega arith

pub loop-row-preserved : goal.loop-row-preserved
loop-row-preserved c =
    let next = count_step owners_in_row c.args.rows.now c.loop-row.row-index c.row-item.result c.row-item.is c.loop-row-test.true in
    let found = c.owners_in_record.ensures c.row-item.result.0 in
    let so_far = c.loop-row.invariant in
    omega arith
