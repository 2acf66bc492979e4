use Rattle.ipam_command.proofs.Makings.{any_sink}
use Rattle.ipam_command.proofs.CniStatuses.{told_status, told_to_end}
use Rattle.ipam_command.proofs.cni_run.cni.Goals as goal

-- the end is the one that the call came to
pub returns-clause-called : goal.returns-clause-called
returns-clause-called g c =
    (c.make_call-end.result, any_sink _ _ c.make_call-end.result _ _ _ _ _ _ _ _ _ _ _ _ c.make_call-end.ensures.went, c.tell_end.ensures.told)

pub returns-clause-to_end : goal.returns-clause-to_end
returns-clause-to_end g c =
    told_to_end _ _ c.make_call-end.result _ _ _ _ _ _ _ c.make_call-end.ensures.went c.tell_end.ensures.told

pub returns-clause-status : goal.returns-clause-status
returns-clause-status g c =
    told_status _ _ c.make_call-end.result _ _ _ _ _ _ _ c.make_call-end.ensures.went c.tell_end.ensures.told
