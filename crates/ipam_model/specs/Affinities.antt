-- How a node claims a block, and how its affinity is released.
use Rattle.std.specs.Prelude.{ℕ, Bool, false, ◌==◌, List, Option, Some, None, option_map, if◌then◌else◌}
use Rattle.ipam_addr.specs.Shape.{CidrValue}
use Rattle.ipam_block.specs.Shape as block
use Rattle.ipam_block.specs.Operations.{fresh_block, next_block, affine_to}
use Rattle.ipam_block.specs.declared.record.Affinity.{Affinity}
use Rattle.ipam_block.specs.declared.state.State.{State}
use Rattle.ipam_block.specs.declared.state.State.TheVariants.{Pending, Confirmed, PendingDeletion}
use Rattle.ipam_records.specs.declared.key.Key.TheVariants as key
use Rattle.ipam_records.specs.declared.call.Call.{Call}
use Rattle.ipam_records.specs.declared.call.Call.TheVariants.{Get, Create, Update, Delete}
use Rattle.ipam_records.specs.declared.record.Record.TheVariants as record_of
use Rattle.ipam_records.specs.Said.{Said}
use Rattle.ipam_records.specs.Label.{idle, standing, Claiming, Claimed, Releasing, Released}
use Rattle.ipam_records.specs.Word.{Word, Ends, Asks}
use Rattle.ipam_model.specs.declared.outcome.ClaimAnswer.{ClaimAnswer}
use Rattle.ipam_model.specs.declared.outcome.ClaimAnswer.TheVariants as claimed
use Rattle.ipam_model.specs.declared.outcome.ReleaseAnswer.{ReleaseAnswer}
use Rattle.ipam_model.specs.declared.outcome.ReleaseAnswer.TheVariants as released
use Rattle.ipam_model.specs.Reads.{affinity_said, block_said}
use Rattle.ipam_model.specs.declared.part.Left.{Left}
use Rattle.ipam_model.specs.Step.{all_left, Part, StopAnswers, goes, after_write, on_write, with_retries, without_count, as_word}
use Rattle.ipam_records.specs.BlockLists.{is_node}

abbrev pub affinity : List ℕ → CidrValue → State → Affinity
affinity node cidr state = record { node = node; cidr = cidr; state = state }

-- a block as it was read with its revision, or that it was missing
abbrev pub BlockRead : Type 0
BlockRead = Option (ℕ × block.BlockValue)

abbrev pub revision_read : BlockRead → Option ℕ
revision_read = option_map (λ found. found.0)

-- ---- a claim

abbrev pub on_claim_write : Said → (took : ℕ → Word ClaimAnswer) → Word ClaimAnswer
on_claim_write said took =
    after_write said took (Ends claimed.Lost) (Ends claimed.Full) (Ends claimed.Spent)

-- the affinity is confirmed, even if it is already
abbrev pub claim_confirm : List ℕ → CidrValue → (kept : ℕ) → Word ClaimAnswer
claim_confirm node cidr kept =
    Asks (standing (Claimed node cidr kept)) (Update (record_of.Affinity (affinity node cidr Confirmed)) kept)
    (λ moment said. on_claim_write said (λ revision. Ends claimed.Confirmed))

-- the block as it was read, with the node, or a fresh one where it was missing
abbrev pub claiming : List ℕ → CidrValue → BlockRead → Call
claiming node cidr None = Create (record_of.Block (fresh_block cidr (Some node)))
claiming node cidr (Some (revision, b)) =
    Update (record_of.Block (affine_to (Some node) (next_block b))) revision

abbrev pub claim_block : List ℕ → CidrValue → BlockRead → (kept : ℕ) → Word ClaimAnswer
claim_block node cidr read kept =
    Asks (standing (Claiming node cidr (revision_read read) kept)) (claiming node cidr read)
    (λ moment said. on_claim_write said (λ revision. claim_confirm node cidr kept))

-- an affinity that is to be deleted is taken back, any other is kept as it is
abbrev pub claim_kept : List ℕ → CidrValue → BlockRead → ℕ → State → Word ClaimAnswer
claim_kept node cidr read revision PendingDeletion =
    Asks idle (Update (record_of.Affinity (affinity node cidr Pending)) revision)
    (λ moment said. on_claim_write said (claim_block node cidr read))
claim_kept node cidr read revision Pending = claim_block node cidr read revision
claim_kept node cidr read revision Confirmed = claim_block node cidr read revision

abbrev pub claim_found : List ℕ → CidrValue → BlockRead → Option (ℕ × Affinity) → Word ClaimAnswer
claim_found node cidr read None =
    Asks idle (Create (record_of.Affinity (affinity node cidr Pending)))
    (λ moment said. on_claim_write said (claim_block node cidr read))
claim_found node cidr read (Some (revision, found)) = claim_kept node cidr read revision found.state

-- The node claims the block that was read before. A lost race ends the claim.
unfoldable pub claim : List ℕ → CidrValue → BlockRead → Word ClaimAnswer
claim node cidr read =
    Asks idle (Get (key.Affinity node cidr)) (λ moment said. claim_found node cidr read (affinity_said said))

-- ---- a release

-- a node, and a block from which its affinity is released
pub record Tie : Type 0 where
  pub node : List ℕ
  pub block : CidrValue

-- the affinity is deleted by its mark
abbrev pub release_delete : Tie → (again : Part ReleaseAnswer) → Left → (mark : ℕ) → Part ReleaseAnswer
release_delete tie again left mark =
    Asks (standing (Released tie.node tie.block mark)) (Delete (key.Affinity tie.node tie.block) mark)
    (λ moment said. on_write said left (λ revision. goes left released.Released) again)

-- the node, unless it is this one
abbrev pub other_node : List ℕ → Option (List ℕ) → Option (List ℕ)
other_node node held = if is_node node held then None else held

-- the block without the node, even if it doesn't have it, or a fresh one where it was missing
abbrev pub baring : List ℕ → CidrValue → BlockRead → Call
baring node cidr None = Create (record_of.Block (fresh_block cidr None))
baring node cidr (Some (revision, b)) =
    Update (record_of.Block (affine_to (other_node node b.node) (next_block b))) revision

abbrev pub release_block : Tie → (again : Part ReleaseAnswer) → Left → (mark : ℕ) → BlockRead → Part ReleaseAnswer
release_block tie again left mark read =
    Asks (standing (Releasing tie.node tie.block (revision_read read) mark)) (baring tie.node tie.block read)
    (λ moment said. on_write said left (λ revision. release_delete tie again left mark) again)

-- whether the affinity is still at its mark
abbrev pub is_at_mark : (mark : ℕ) → Option (ℕ × Affinity) → Bool
is_at_mark mark None = false
is_at_mark mark (Some found) = found.0 == mark

-- The block is read and then the affinity. Where that is not at its mark any more, a race was lost.
abbrev pub release_look : Tie → (again : Part ReleaseAnswer) → Left → (mark : ℕ) → Part ReleaseAnswer
release_look tie again left mark =
    Asks idle (Get (key.Block tie.block)) (λ moment seen.
    Asks idle (Get (key.Affinity tie.node tie.block)) (λ second said.
    if is_at_mark mark (affinity_said said) then release_block tie again left mark (block_said seen) else again))

-- the affinity is marked for deletion, even if it is already
abbrev pub release_found : Tie → (again : Part ReleaseAnswer) → Left → (moment : ℕ) → Option (ℕ × Affinity) → Part ReleaseAnswer
release_found tie again left moment None = goes left (released.NoAffinity moment)
release_found tie again left moment (Some (revision, found)) =
    Asks idle (Update (record_of.Affinity (affinity tie.node tie.block PendingDeletion)) revision)
    (λ second said. on_write said left (release_look tie again left) again)

abbrev pub release_once : Tie → (again : Part ReleaseAnswer) → Left → Part ReleaseAnswer
release_once tie again left =
    Asks idle (Get (key.Affinity tie.node tie.block))
    (λ moment said. release_found tie again left moment (affinity_said said))

abbrev pub release_stops : StopAnswers ReleaseAnswer
release_stops = without_count released.Again released.Full released.Spent

-- The affinity of the node to the block is released.
abbrev pub release : List ℕ → CidrValue → Word ReleaseAnswer
release node cidr =
    as_word release_stops (with_retries (release_once (record { node = node; block = cidr })) all_left)
