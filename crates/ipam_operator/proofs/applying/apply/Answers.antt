use Rattle.std.proofs.Common.{[], refl, rules}
use Rattle.ipam_operator.specs.Applying.{NoInput, Read, ReadFailed}
use Rattle.ipam_operator.proofs.Wires.{outside-anew, wire-anew}
use Rattle.ipam_operator.proofs.applying.apply.Goals as goal

pub returns-in-Ok-clause-applied : goal.returns-in-Ok-clause-applied
returns-in-Ok-clause-applied g c = (
  c.apply_document.ensures.ended.0,
  Read c.in-Ok.document.items c.in-Ok.ensures.bytes c.in-Ok.ensures.whole c.in-Ok.ensures.bound c.in-Ok.ensures.no_fault (rw c.as_slice.ensures.value at c.apply_document.ensures.ended.1),
)

pub returns-in-Err-Read-clause-applied : goal.returns-in-Err-Read-clause-applied
returns-in-Err-Read-clause-applied g c = ([], ReadFailed (search rules) (wire-anew _ _ _ _) c.tell.ensures.written)

pub returns-in-Err-Memory-clause-applied : goal.returns-in-Err-Memory-clause-applied
returns-in-Err-Memory-clause-applied g c = ([], NoInput (search rules) (outside-anew [] refl _ _ _ _ _ _) refl)
