use Rattle.ipam_resources.specs.Printed.{fault_line}
use Rattle.ipam_operator.proofs.applying.tell_document.Goals as goal

pub returns-in-Long-clause-told : goal.returns-in-Long-clause-told
unfolding fault_line
returns-in-Long-clause-told g c = rw c.in-Long.is c.tell.ensures.written

pub returns-in-NotJson-clause-told : goal.returns-in-NotJson-clause-told
unfolding fault_line
returns-in-NotJson-clause-told g c = rw c.in-NotJson.is c.tell-in-NotJson.ensures.written
