use Rattle.ipam_laws.proofs.Fates.{any_fate}
use Rattle.ipam_laws.proofs.faults.a_call_may_have_any_fate.Goals as goal

pub returns : goal.returns
returns c = any_fate
