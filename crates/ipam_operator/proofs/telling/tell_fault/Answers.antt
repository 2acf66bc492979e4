use Rattle.std.proofs.Common.{refl}
use Rattle.ipam_operator.specs.Telling.{Said, Untold}
use Rattle.ipam_operator.proofs.telling.tell_fault.Goals as goal

pub returns-in-Link-clause-told : goal.returns-in-Link-clause-told
returns-in-Link-clause-told g c = rw c.in-Link.is (Said _ c.tell.ensures.written)

pub returns-in-Reply-clause-told : goal.returns-in-Reply-clause-told
returns-in-Reply-clause-told g c = rw c.in-Reply.is (Said _ c.tell-in-Reply.ensures.written)

pub returns-in-Memory-clause-told : goal.returns-in-Memory-clause-told
returns-in-Memory-clause-told g c = rw c.in-Memory.is (Untold refl refl refl)
