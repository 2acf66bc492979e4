-- A claim that goes on has a call to make.
use Rattle.std.specs.Prelude.{◌≡◌, refl, ℕ, List, None}
use Rattle.ipam_addr.specs.Shape.{CidrValue}
use Rattle.ipam_records.specs.Word.{answer_in}
use Rattle.ipam_model.specs.Affinities.{BlockRead, claim}
use Rattle.ipam_parts.specs.declared.claim.Stage.{Stage}
use Rattle.ipam_parts.specs.declared.claim.Stage.TheVariants.{Looks, Writes}
use Rattle.ipam_parts.specs.declared.claim.Writing.TheVariants.{Creates, TakesBack, Claims, Confirms}
use Rattle.ipam_parts.specs.Claim.{claim_at}

pub goes_on : (node : List ℕ) (cidr : CidrValue) (read : BlockRead) (stage : Stage)
    → None ≡ answer_in (claim_at node cidr read stage)
unfolding claim
goes_on node cidr read Looks = refl
goes_on node cidr read (Writes Creates) = refl
goes_on node cidr read (Writes (TakesBack revision)) = refl
goes_on node cidr read (Writes (Claims kept)) = refl
goes_on node cidr read (Writes (Confirms kept)) = refl
