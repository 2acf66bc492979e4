use Rattle.std.proofs.Common.{inl, inr}
use Rattle.ipam_call.proofs.calling.call.Goals as goal

-- the link went from the one that was made to the one that was ended
pub returns-in-Some-clause-called : goal.returns-in-Some-clause-called
returns-in-Some-clause-called g c =
    let (end, went, told) = c.run_call-status.ensures.called in
    inl (_, _, _, c.in-Some.ensures.reached, c.end.ensures, (end, went, told))

pub returns-in-None-clause-called : goal.returns-in-None-clause-called
returns-in-None-clause-called g c =
    let (end, unreached, told) = c.tell_unreached.ensures.told in
    inr (c.in-None.ensures.failed, (end, unreached, told))
