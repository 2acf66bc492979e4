use Rattle.std.proofs.Common.{refl}
use Rattle.ipam_shared.specs.Durable.{HadFailed}
use Rattle.ipam_shared.proofs.durable.once_sure.Goals as goal

pub returns-in-Fault-clause-told : goal.returns-in-Fault-clause-told
returns-in-Fault-clause-told g c = HadFailed c.in-Fault.is refl refl
