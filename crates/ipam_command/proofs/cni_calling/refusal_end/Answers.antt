use Rattle.ipam_command.specs.Calls.{NoConfiguration, WithDetails}
use Rattle.ipam_command.proofs.cni_calling.refusal_end.Goals as goal

pub returns-in-Undecodable-clause-ends : goal.returns-in-Undecodable-clause-ends
returns-in-Undecodable-clause-ends g c = NoConfiguration c.in-Undecodable.is

pub returns-in_default-clause-ends : goal.returns-in_default-clause-ends
returns-in_default-clause-ends g c = WithDetails c.refused.result c.in_default.not-Undecodable c.refused.ensures.ends
