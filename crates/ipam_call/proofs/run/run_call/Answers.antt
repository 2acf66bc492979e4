use Rattle.ipam_call.proofs.Statuses.{told_status}
use Rattle.ipam_call.proofs.run.run_call.Goals as goal

-- the end is the one that the call came to
pub returns-clause-called : goal.returns-clause-called
returns-clause-called g c = (c.call_daemon-end.result, c.call_daemon-end.ensures.went, c.tell_end.ensures.told)

pub returns-clause-status : goal.returns-clause-status
returns-clause-status g c =
    told_status c.call_daemon-end.result _ _ _ _ c.tell_end.result c.call_daemon-end.ensures.went.status c.tell_end.ensures.told
