-- What is known of what was taken from a queue.
use Rattle.std.proofs.Common.{◌≡◌, subst, Option, Some, IfSome}

-- what holds of a value that is there
pub holds_of_some : {A : Type 0} (P : A → Type 0) (found : Option A) (value : A) → found ≡ Some value → IfSome found P → P value
holds_of_some {A = A} P found value is holds = let Q : Option A → Type 0 = λ o. IfSome o P in subst Q is holds
