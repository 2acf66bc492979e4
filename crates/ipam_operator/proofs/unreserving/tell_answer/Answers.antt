use Rattle.ipam_operator.proofs.unreserving.tell_answer.Goals as goal

pub returns-in-Done-clause-told : goal.returns-in-Done-clause-told
returns-in-Done-clause-told g c = rw c.in-Done.is c.tell.ensures.written

pub returns-in-Released-clause-told : goal.returns-in-Released-clause-told
returns-in-Released-clause-told g c = rw c.in-Released.is c.tell-in-Released.ensures.written

pub returns-in-NoAffinity-clause-told : goal.returns-in-NoAffinity-clause-told
returns-in-NoAffinity-clause-told g c = rw c.in-NoAffinity.is c.tell-in-NoAffinity.ensures.written

pub returns-in-Fault-clause-told : goal.returns-in-Fault-clause-told
returns-in-Fault-clause-told g c = rw c.in-Fault.is c.tell-in-Fault.ensures.written

pub returns-in-Refused-clause-told : goal.returns-in-Refused-clause-told
returns-in-Refused-clause-told g c = rw c.in-Refused.is c.tell_refused.ensures.told
