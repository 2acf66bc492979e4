-- Resources that are asked for one after another.
use Rattle.std.proofs.Common.{◌≡◌, List, [], ◌∷◌, ◌++◌, refl, ap, ◌∙◌, subst, Result}
use Rattle.std.specs.Iterator.{Yields}
use Rattle.std.specs.Vec.Iter.{into_iter_items, into_iter_steps}
use Rattle.std.specs.declared.vec.IntoIter.{IntoIter}
use Rattle.ipam_resources.specs.declared.resource.Resource.{Resource}
use Rattle.ipam_operator.specs.declared.asking.AskFault.{AskFault}
use Rattle.ipam_operator.specs.declared.answer.OperatorAnswer.{OperatorAnswer}
use Rattle.ipam_operator.specs.declared.end.End.TheVariants as end
use Rattle.ipam_operator.specs.Applying.{All, AreApplied, IsTold, AskedOutside, AskedResourcesEnd}

-- one more is applied
pub applied-one : (front : List Resource) (one : Resource) (came : Result OperatorAnswer AskFault) (old between new : AskedOutside) → AreApplied front old between → IsTold one came between new end.Done
    → AreApplied (front ++ one ∷ []) old new
applied-one [] one came old between new same told = (new, came, subst (λ (o : AskedOutside). IsTold one came o new end.Done) same told, refl)
applied-one (first ∷ front) one came old between new h told =
    (h.0, h.1, h.2, applied-one front one came h.0 between new h.3 told)

-- what was given and what is left is all that there was
pub given-left : {X A : Type 0} (first : IntoIter X A) (given : List X) (now : IntoIter X A) → Yields into_iter_steps first given now → into_iter_items first ≡ given ++ into_iter_items now
given-left first [] now y = ap into_iter_items y
given-left first (x ∷ given) now y = y.1.0 ∙ ap (λ xs. x ∷ xs) (given-left y.0 given now y.2)

-- all were given
pub all-end : (resources given : List Resource) (old new : AskedOutside) → given ≡ resources → AreApplied given old new → AskedResourcesEnd resources old new end.Done
all-end resources given old new same applied = All (subst (λ (xs : List Resource). AreApplied xs old new) same applied)
