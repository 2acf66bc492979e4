use Rattle.ipam_operator.proofs.releasing.tell_answer.Goals as goal

pub returns-in-NoAffinity-clause-told : goal.returns-in-NoAffinity-clause-told
returns-in-NoAffinity-clause-told g c = rw c.in-NoAffinity.is c.tell-in-NoAffinity.ensures.written

pub returns-in-Fault-clause-told : goal.returns-in-Fault-clause-told
returns-in-Fault-clause-told g c = rw c.in-Fault.is c.tell-in-Fault.ensures.written

pub returns-in-Done-clause-told : goal.returns-in-Done-clause-told
returns-in-Done-clause-told g c = rw c.in-Done.is c.tell-in-Done.ensures.written

pub returns-in-Refused-clause-told : goal.returns-in-Refused-clause-told
returns-in-Refused-clause-told g c = rw c.in-Refused.is c.tell-in-Refused.ensures.written
