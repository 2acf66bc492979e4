-- What is left of the lowering of a count before each of its tries, and what is known of its read.
use Rattle.std.proofs.Common.{◌≡◌, ◌≤◌, refl, sym, ℕ, List, Some}
use Rattle.ipam_addr.specs.Shape.{CidrValue}
use Rattle.ipam_block.specs.HandleOperations.{count_of}
use Rattle.ipam_records.specs.declared.key.Key.TheVariants as key
use Rattle.ipam_records.specs.declared.call.Call.TheVariants.{Get}
use Rattle.ipam_records.specs.declared.record.Record.TheVariants as record_of
use Rattle.ipam_records.specs.Hearing.{MayHear, CoversCredit}
use Rattle.ipam_records.specs.Label.{Credit}
use Rattle.ipam_records.specs.Said.{Said, Found, Missing, Listed, Can, Exists, Conflict, Full, Spent}
use Rattle.ipam_model.specs.declared.part.Left.{Left}
use Rattle.ipam_model.specs.Counting.{credit_of, lower, lower_once}
use Rattle.ipam_model.specs.Reads.{handle_said}
use Rattle.ipam_parts.specs.declared.lowering.Stage.TheVariants.{Reads}
use Rattle.ipam_parts.specs.Lowering.{lowering_at}
use Rattle.ipam_parts.proofs.TryLaws.{retried_once}

pub begins : (id : List ℕ) (cidr : CidrValue) (amount : ℕ) (left : Left)
    → lowering_at id cidr amount left Reads ≡ lower (credit_of id cidr amount) left
begins id cidr amount left = sym (retried_once (lower_once (credit_of id cidr amount)) left)

covers : (credit : Credit) (said : Said) → CoversCredit (Some credit) (Get (key.Handle credit.handle)) said
    → credit.amount ≤ count_of (handle_said credit.handle said) credit.block
covers credit (Found revision (record_of.Handle handle)) covered = covered refl
covers credit (Found revision (record_of.Config config)) covered = absurd (covered refl)
covers credit (Found revision (record_of.Pools pools)) covered = absurd (covered refl)
covers credit (Found revision (record_of.Reservations reservations)) covered = absurd (covered refl)
covers credit (Found revision (record_of.Block block)) covered = absurd (covered refl)
covers credit (Found revision (record_of.Affinity affinity)) covered = absurd (covered refl)
covers credit Missing covered = absurd (covered refl)
covers credit (Listed rows) covered = absurd (covered refl)
covers credit (Can revision) covered = absurd (covered refl)
covers credit (Exists revision) covered = absurd (covered refl)
covers credit (Conflict revision) covered = absurd (covered refl)
covers credit Full covered = absurd (covered refl)
covers credit Spent covered = absurd (covered refl)

-- the handle that is read has as much as is to go
pub is_within : (id : List ℕ) (cidr : CidrValue) (amount : ℕ) (left : Left) (said : Said)
    → MayHear (lowering_at id cidr amount left Reads) said → amount ≤ count_of (handle_said id said) cidr
is_within id cidr amount left said heard = covers (credit_of id cidr amount) said heard.1
