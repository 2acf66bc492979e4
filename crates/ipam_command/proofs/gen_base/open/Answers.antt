use Rattle.ipam_command.proofs.BaseLemmas.{by-key, not-refused, stands-base}
use Rattle.ipam_command.proofs.gen_base.open.Goals as goal

pub open-requires-clause-by_key : goal.open-requires-clause-by_key
open-requires-clause-by_key c = by-key c.in_ok-rows.rows.items c.in_ok-rows.ensures

pub returns-in-Ok : goal.returns-in-Ok
returns-in-Ok c = stands-base c.in-Ok.cluster c.in_ok-rows.rows.items c.in_ok-rows.ensures c.in-Ok.ensures.opened c.in-Ok.ensures.stands

pub unreachable-requires : goal.unreachable-requires
unreachable-requires c =
    not-refused c.in_ok-rows.rows.items c.in-Err-Refused.field-0 c.in-Err-Refused.field-0-0 c.in-Err-Refused.field-0-1
    c.in_ok-rows.ensures c.in-Err-Refused.field-0-is c.in-Err-Refused.ensures.refused
