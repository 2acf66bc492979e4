use Rattle.ipam_call.proofs.unreached.tell_unreached.Goals as goal

pub returns-clause-told : goal.returns-clause-told
returns-clause-told g c = (c.unreached-end.result, c.unreached-end.ensures.end, c.tell_end.ensures.told)
