-- What is left of the raising of a count before each of its tries.
use Rattle.std.proofs.Common.{◌≡◌, sym, ℕ, List}
use Rattle.ipam_addr.specs.Shape.{CidrValue}
use Rattle.ipam_model.specs.declared.part.Left.{Left}
use Rattle.ipam_model.specs.Counting.{raise, raise_once}
use Rattle.ipam_parts.specs.declared.raising.Stage.TheVariants.{Reads}
use Rattle.ipam_parts.specs.Raising.{raising_at}
use Rattle.ipam_parts.proofs.TryLaws.{retried_once}

pub begins : (id : List ℕ) (cidr : CidrValue) (left : Left) → raising_at id cidr left Reads ≡ raise id cidr left
begins id cidr left = sym (retried_once (raise_once id cidr) left)
