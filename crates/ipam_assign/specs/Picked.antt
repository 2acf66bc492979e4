-- What is known of what was picked.
use Rattle.std.specs.Prelude.{◌≡◌, ◌<◌, ◌≤◌, ◌^◌, ℕ, false, IfSome}
use Rattle.ipam_addr.specs.Width.{cidr_size}
use Rattle.ipam_block.specs.declared.limits.TheConstants.{ADDRESSES_MAX}
use Rattle.ipam_block.specs.Operations.{is_held}
use Rattle.ipam_block.specs.Shape.{BlockValue}
use Rattle.ipam_choice.specs.Picked.{pick_as}
use Rattle.ipam_model.specs.Affinities.{BlockRead}
use Rattle.ipam_model.specs.Choice.{Rank, Own, Unconfirmed, Unclaimed, Foreign, Ranked, Pick, Unknown, Lacks, Picks}
use Rattle.ipam_assign.specs.declared.scanning.Scanned.{Scanned}
use Rattle.ipam_assign.specs.declared.scanning.Scanned.TheVariants.{Learned, Chosen}

-- the ordinal is one of the block's and free, and the block may be written once more
pub record IsTakeable (b : BlockValue) (ordinal : ℕ) : Type 0 where
  pub own : ordinal < cidr_size b.cidr
  pub free : is_held b ordinal ≡ false
  pub counted : b.sequence < 2 ^ 62

-- the block, where there is one, may be written once more
abbrev pub IsClaimable : BlockRead → Type 0
IsClaimable read = IfSome read (λ found. found.1.sequence < 2 ^ 62)

abbrev pub FitsRank : Rank → Type 0
FitsRank (Own found ordinal) = IsTakeable found.1 ordinal
FitsRank (Unconfirmed found) = found.1.sequence < 2 ^ 62
FitsRank (Unclaimed read) = IsClaimable read
FitsRank (Foreign found ordinal) = IsTakeable found.1 ordinal

-- the slot has few addresses
pub record FitsRanked (ranked : Ranked) : Type 0 where
  pub small : cidr_size ranked.slot ≤ ADDRESSES_MAX
  pub rank : FitsRank ranked.rank

-- what is picked can be written
abbrev pub FitsPick : Pick → Type 0
FitsPick (Picks ranked) = FitsRanked ranked
FitsPick Lacks = Unit {0}
FitsPick (Unknown place) = Unit {0}

abbrev pub FitsScanned : Scanned → Type 0
FitsScanned (Chosen scan picked) = FitsPick (pick_as picked)
FitsScanned (Learned learned) = Unit {0}
