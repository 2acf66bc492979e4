-- What both kinds of ADD do once they have chosen: an address is assigned, or a block is claimed.
use Rattle.std.specs.Prelude.{ℕ, zero, suc, ◌+◌, List, Option, Some, None}
use Rattle.ipam_addr.specs.declared.address.Family.{Family}
use Rattle.ipam_addr.specs.declared.address.Family.TheVariants.{V4, V6}
use Rattle.ipam_addr.specs.Shape.{CidrValue}
use Rattle.ipam_block.specs.declared.allocation.Attributes.{Attributes}
use Rattle.ipam_block.specs.Shape as block
use Rattle.ipam_block.specs.Operations.{next_block, block_with_ordinal}
use Rattle.ipam_records.specs.declared.call.Call.TheVariants.{Update}
use Rattle.ipam_records.specs.declared.record.Record.TheVariants as record_of
use Rattle.ipam_records.specs.Label.{owing}
use Rattle.ipam_records.specs.Word.{Asks, bound}
use Rattle.ipam_model.specs.declared.part.Assigned.{Assigned}
use Rattle.ipam_model.specs.declared.outcome.ClaimAnswer.{ClaimAnswer}
use Rattle.ipam_model.specs.declared.outcome.ClaimAnswer.TheVariants as claimed
use Rattle.ipam_model.specs.declared.request.AddRequest.{AddRequest}
use Rattle.ipam_model.specs.Affinities.{BlockRead, claim}
use Rattle.ipam_model.specs.Counting.{credit_of, raise, lower}
use Rattle.ipam_model.specs.declared.part.Left.{Left}
use Rattle.ipam_model.specs.declared.part.Stop.TheVariants.{OutOfClaims, NoRoom, NoRevisions}
use Rattle.ipam_model.specs.Step.{left_of, Part, goes, stops, part_then, after_lost, on_write}

-- the pools of the family that the request names
abbrev pub names_for : Family → AddRequest → List (List ℕ)
names_for V4 request = request.pools4
names_for V6 request = request.pools6

-- ---- an address is assigned

-- an ordinal of a block as it was read, with its revision
pub record Target : Type 0 where
  pub revision : ℕ
  pub block : block.BlockValue
  pub ordinal : ℕ

abbrev pub target_in : ℕ × block.BlockValue → (ordinal : ℕ) → Target
target_in found ordinal = record { revision = found.0; block = found.1; ordinal = ordinal }

-- The block was not written: the count is lowered again, and another look is needed.
abbrev pub assign_lost : Attributes → Target → Left → Part (Option Assigned)
assign_lost attributes target left =
    after_lost left.races left.claims (λ less.
    part_then (lower (credit_of attributes.handle target.block.cidr 1) less) (λ now done. goes now None))

-- the block as it was read, with the ordinal held by the handle
abbrev pub assign_block : Attributes → Target → Left → Part (Option Assigned)
assign_block attributes target left =
    Asks (owing (credit_of attributes.handle target.block.cidr 1))
    (Update (record_of.Block (block_with_ordinal (next_block target.block) target.ordinal attributes)) target.revision)
    (λ moment said. on_write said left
    (λ taken. goes left (Some (record { moment = moment; stamp = target.block.sequence + 1 })))
    (assign_lost attributes target left))

-- The count is raised and the block written at the revision at which it was read. Where that is
-- lost, nothing is assigned.
abbrev pub assign : Attributes → Target → Left → Part (Option Assigned)
assign attributes target left =
    part_then (raise attributes.handle target.block.cidr left) (λ now done. assign_block attributes target now)

-- ---- a block is claimed

-- what follows a confirmed claim with one less left, where it was not the last
abbrev pub after_confirmed : (races claims : ℕ) → Part (Unit {0})
after_confirmed races zero = stops (left_of races zero) OutOfClaims
after_confirmed races (suc claims) = goes (left_of races claims) tt

abbrev pub after_claim : Left → ClaimAnswer → Part (Unit {0})
after_claim left claimed.Confirmed = after_confirmed left.races left.claims
after_claim left claimed.Lost = after_lost left.races left.claims (λ less. goes less tt)
after_claim left claimed.Full = stops left NoRoom
after_claim left claimed.Spent = stops left NoRevisions

-- the node claims the block that was read; confirmed or lost, another look is needed
abbrev pub claim_for : List ℕ → CidrValue → BlockRead → Left → Part (Unit {0})
claim_for node cidr read left = bound (claim node cidr read) (after_claim left)
