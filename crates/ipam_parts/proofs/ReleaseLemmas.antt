-- What is left of a release before each of its tries.
use native.Mathlib.Omega.{arith}
use Rattle.std.proofs.Common.{◌≡◌, ◌<◌, ◌^◌, sym, ap, ℕ, List, IfSome}
use Rattle.ipam_addr.specs.Shape.{CidrValue}
use Rattle.ipam_model.specs.declared.part.Left.{Left}
use Rattle.ipam_model.specs.Affinities.{Tie, release, release_once, release_stops}
use Rattle.ipam_model.specs.Reads.{block_said}
use Rattle.ipam_model.specs.Step.{all_left, as_word}
use Rattle.ipam_records.specs.declared.key.Key.TheVariants as key
use Rattle.ipam_records.specs.Hearing.{MayHear}
use Rattle.ipam_records.specs.Said.{Said}
use Rattle.ipam_parts.specs.declared.release.Reading.{Reading}
use Rattle.ipam_parts.specs.declared.release.Stage.TheVariants.{Reads}
use Rattle.ipam_parts.specs.declared.release.Reading.TheVariants.{Affinity, Block, Again}
use Rattle.ipam_parts.specs.Release.{release_at}
use Rattle.ipam_parts.proofs.HearingFacts.{found_block_counted}
use Rattle.ipam_parts.proofs.TryLaws.{retried_once}

pub begins : (node : List ℕ) (cidr : CidrValue)
    → release_at (record { node = node; block = cidr }) all_left (Reads Affinity) ≡ release node cidr
begins node cidr =
    ap (as_word release_stops) (sym (retried_once (release_once (record { node = node; block = cidr })) all_left))

-- the block that is read can be written once more
pub read_counted : (tie : Tie) (left : Left) (reading : Reading) (mark : ℕ) (said : Said) → reading ≡ Block mark
    → MayHear (release_at tie left (Reads reading)) said
    → IfSome (block_said said) (λ found. found.1.sequence < 2 ^ 62)
read_counted tie left (Block kept) mark said is heard = found_block_counted (key.Block tie.block) said heard.0
read_counted tie left Affinity mark said is heard = grind arith
read_counted tie left (Again seen) mark said is heard = grind arith
