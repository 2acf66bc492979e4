-- The parts of requests call by sound names, whatever sound replies they hear.
use Rattle.std.proofs.Common.{◌≡◌, ◌+◌, ℕ, zero, suc, Bool, true, false, cond, List, [], ◌∷◌, Option, Some, None, refl, arith}
use Rattle.std.specs.Prelude.{nat_le}
use Rattle.std.specs.List.{count_by}
use Rattle.ipam_addr.specs.declared.address.Family.{Family}
use Rattle.ipam_addr.specs.Shape.{CidrValue}
use Rattle.ipam_addr.specs.Width.{IsCidr}
use Rattle.ipam_block.specs.declared.allocation.Attributes.{Attributes}
use Rattle.ipam_block.specs.Shape as block
use Rattle.ipam_block.specs.declared.record.Affinity.{Affinity}
use Rattle.ipam_block.specs.declared.state.State.{State}
use Rattle.ipam_block.specs.declared.state.State.TheVariants.{Pending, Confirmed, PendingDeletion}
use Rattle.ipam_block.specs.HandleShape as handle
use Rattle.ipam_block.specs.HandleOperations.{count_of, with_raised_count, with_lowered_count}
use Rattle.ipam_records.specs.declared.record.Record.TheVariants as record_of
use Rattle.ipam_records.specs.Label.{Credit}
use Rattle.ipam_records.specs.Said.{Said, Found, Missing, Listed, Can, Exists, Conflict, Full, Spent}
use Rattle.ipam_records.specs.Sound.{IsName, IsHandleId}
use Rattle.ipam_records.specs.Word.{Word, Ends}
use Rattle.ipam_model.specs.declared.answer.Scan.{Scan}
use Rattle.ipam_model.specs.declared.outcome.ClaimAnswer.{ClaimAnswer}
use Rattle.ipam_model.specs.declared.outcome.ClaimAnswer.TheVariants as claimed
use Rattle.ipam_model.specs.declared.outcome.ReleaseAnswer.{ReleaseAnswer}
use Rattle.ipam_model.specs.declared.outcome.ReleaseAnswer.TheVariants as released
use Rattle.ipam_model.specs.declared.part.Assigned.{Assigned}
use Rattle.ipam_model.specs.declared.part.Left.{Left}
use Rattle.ipam_model.specs.declared.part.Stop.TheVariants.{CountAtLimit}
use Rattle.ipam_model.specs.Add.{five_reads}
use Rattle.ipam_model.specs.Affinities.{BlockRead, Tie, on_claim_write, claim, claim_found, claim_kept, claim_block, claim_confirm, claiming, baring, is_at_mark, release, release_once, release_found, release_look, release_block, release_delete, release_stops}
use Rattle.ipam_model.specs.Assigning.{Target, assign, assign_block, assign_lost, after_claim, claim_for}
use Rattle.ipam_model.specs.Choice.{Seen}
use Rattle.ipam_model.specs.Counting.{most_count, raise, raise_once, raise_write, lower, lower_once, written_or_deleted, revision_said, FreedOfHandle, free, free_once, free_found, free_these, credit_of}
use Rattle.ipam_model.specs.Named.{name_of}
use Rattle.ipam_model.specs.Reads.{config_said, pools_said, reservations_said, rows_said, handle_said, block_said, affinity_said}
use Rattle.ipam_model.specs.Step.{all_left, left_of, Part, goes, stops, with_retries, part_then}
use Rattle.ipam_model.specs.Told.{of_release}
use Rattle.ipam_text_laws.specs.Answers.{FitsIn64, IsSoundScan, IsSoundAnswer}
use Rattle.ipam_text_laws.specs.Limits.{IsSoundName}
use Rattle.ipam_text_laws.proofs.Tells.{Any, Comes, IsSoundRead, IsSoundSaid, IsSoundTie, Tells, affinity_said-sound, after_write-tells, block_said-sound, bound-tells, followed-tells, handle_said-id, on_write-tells, settled-tells, tries-tells, write_back-sound}

-- ---- counts

raise_write-tells : (id : List ℕ) (cidr : CidrValue) (again : Part (Unit {0})) (left : Left) (moment : ℕ) (said : Said) (b : Bool) → IsHandleId id → FitsIn64 moment → IsSoundSaid said → Tells (Comes Any) again → Tells (Comes Any) (cond b (stops left (CountAtLimit moment)) (raise_write id cidr again left said))
raise_write-tells id cidr again left moment said true named fits told h = fits
raise_write-tells id cidr again left moment said false named fits told h = (
  write_back-sound said (record_of.Handle (with_raised_count (handle_said id said) cidr 1)) told (handle_said-id id said named told),
  λ second reply also answered. on_write-tells Any reply left (λ revision. goes left tt) again answered (λ revision few. tt) h,
)

raise_once-tells : (id : List ℕ) (cidr : CidrValue) → IsHandleId id → (again : Part (Unit {0})) (left : Left) → Tells (Comes Any) again → Tells (Comes Any) (raise_once id cidr again left)
raise_once-tells id cidr named again left h =
    (named, λ moment said fits told. raise_write-tells id cidr again left moment said (nat_le most_count (count_of (handle_said id said) cidr)) named fits told h)

pub raise-tells : (id : List ℕ) (cidr : CidrValue) (left : Left) → IsHandleId id → Tells (Comes Any) (raise id cidr left)
raise-tells id cidr left named = tries-tells Any (raise_once id cidr) (raise_once-tells id cidr named) left.races left.claims

lowering-sound : (h : handle.HandleValue) (counts : List (CidrValue × ℕ)) (revision : ℕ) → IsHandleId h.id → FitsIn64 revision → IsSoundName (name_of (written_or_deleted h counts revision))
lowering-sound h [] revision named fits = (named, fits)
lowering-sound h (count ∷ counts) revision named fits = (named, fits)

revision_said-fits : (said : Said) → IsSoundSaid said → FitsIn64 (revision_said said)
revision_said-fits (Found revision found) told = told.1
revision_said-fits Missing told = omega arith
revision_said-fits (Listed rows) told = omega arith
revision_said-fits (Can revision) told = omega arith
revision_said-fits (Exists revision) told = omega arith
revision_said-fits (Conflict revision) told = omega arith
revision_said-fits Full told = omega arith
revision_said-fits Spent told = omega arith

lower_once-tells : (credit : Credit) → IsHandleId credit.handle → (again : Part (Unit {0})) (left : Left) → Tells (Comes Any) again → Tells (Comes Any) (lower_once credit again left)
lower_once-tells credit named again left h = (
  named,
  λ moment said fits told.
      let less = with_lowered_count (handle_said credit.handle said) credit.block credit.amount in (
        lowering-sound less less.counts (revision_said said) (handle_said-id credit.handle said named told) (revision_said-fits said told),
        λ second reply also answered. on_write-tells Any reply left (λ revision. goes left tt) again answered (λ revision few. tt) h,
      ),
)

pub lower-tells : (credit : Credit) (left : Left) → IsHandleId credit.handle → Tells (Comes Any) (lower credit left)
lower-tells credit left named = tries-tells Any (lower_once credit) (lower_once-tells credit named) left.races left.claims

-- ---- freeing

-- the handle's id is one, and the block a CIDR
pub record IsSoundFreeing (what : FreedOfHandle) : Type 0 where
  pub id : IsHandleId what.handle
  pub range : IsCidr what.block

free_these-tells : (what : FreedOfHandle) (again : Part ℕ) (left : Left) (amount : ℕ) (found : ℕ × block.BlockValue) → IsSoundFreeing what → IsSoundRead (Some found) → Tells (Comes Any) again → Tells (Comes Any) (free_these what again left amount found)
free_these-tells what again left zero found sound read h = tt
free_these-tells what again left (suc more) found sound read h = (
  (read.0.block.range, read.1),
  λ moment reply fits answered. on_write-tells Any reply left
      (λ taken. part_then (lower (credit_of what.handle what.block (suc more)) left) (λ now done. goes now (suc more))) again answered
      (λ taken few. followed-tells Any Any (lower (credit_of what.handle what.block (suc more)) left) (λ now done. goes now (suc more)) (lower-tells (credit_of what.handle what.block (suc more)) left sound.id) (λ now done any. tt)) h,
)

free_found-tells : (what : FreedOfHandle) (again : Part ℕ) (left : Left) (found : Option (ℕ × block.BlockValue)) → IsSoundFreeing what → IsSoundRead found → Tells (Comes Any) again → Tells (Comes Any) (free_found what again left found)
free_found-tells what again left None sound read h = tt
free_found-tells what again left (Some found) sound read h = free_these-tells what again left (count_by what.picks found.1.allocations) found sound read h

free_once-tells : (what : FreedOfHandle) → IsSoundFreeing what → (again : Part ℕ) (left : Left) → Tells (Comes Any) again → Tells (Comes Any) (free_once what again left)
free_once-tells what sound again left h =
    (sound.range, λ moment said fits told. free_found-tells what again left (block_said said) sound (block_said-sound said told) h)

pub free-tells : (what : FreedOfHandle) (left : Left) → IsSoundFreeing what → Tells (Comes Any) (free what left)
free-tells what left sound = tries-tells Any (free_once what) (free_once-tells what sound) left.races left.claims

-- ---- the five reads of a round

-- what was read is told of by sound replies
pub record IsSoundSeen (seen : Seen) : Type 0 where
  pub pools : Said
  pub pools_told : IsSoundSaid pools
  pub blocks : Said
  pub blocks_told : IsSoundSaid blocks
  pub are_pools : seen.pools ≡ pools_said pools
  pub are_blocks : seen.blocks ≡ rows_said blocks

pub five_reads-tells : {A : Type 0} → (P : A → Type 0) (family : Family) (follows : Scan → Seen → Word A) → ((scan : Scan) (seen : Seen) → IsSoundScan scan → IsSoundSeen seen → Tells P (follows scan seen)) → Tells P (five_reads family follows)
five_reads-tells P family follows k = (
  tt,
  λ c config first one. (
    tt,
    λ p pools second two. (
      tt,
      λ r reservations third three. (
        tt,
        λ f affinities fourth four. (
          tt,
          λ b blocks fifth five.
              k (record { family = family; c = c; p = p; r = r; f = f; b = b })
              (record {
                config = config_said config;
                pools = pools_said pools;
                reservations = reservations_said reservations;
                affinities = rows_said affinities;
                blocks = rows_said blocks;
              })
              (record { b = fifth; c = first; f = fourth; p = second; r = third })
              (record { pools = pools; pools_told = two; blocks = blocks; blocks_told = five; are_pools = refl; are_blocks = refl }),
        ),
      ),
    ),
  ),
)

-- ---- a claim

claim_write-tells : (said : Said) (took : ℕ → Word ClaimAnswer) → IsSoundSaid said → ((revision : ℕ) → FitsIn64 revision → Tells Any (took revision)) → Tells Any (on_claim_write said took)
claim_write-tells said took told h = after_write-tells Any said took (Ends claimed.Lost) (Ends claimed.Full) (Ends claimed.Spent) told h tt tt tt

claiming-sound : (node : List ℕ) (cidr : CidrValue) (read : BlockRead) → IsCidr cidr → IsSoundRead read → IsSoundName (name_of (claiming node cidr read))
claiming-sound node cidr None range h = range
claiming-sound node cidr (Some found) range h = (h.0.block.range, h.1)

claim_block-tells : (node : List ℕ) (cidr : CidrValue) (read : BlockRead) (kept : ℕ) → IsName node → IsCidr cidr → IsSoundRead read → FitsIn64 kept → Tells Any (claim_block node cidr read kept)
claim_block-tells node cidr read kept named range h fits = (
  claiming-sound node cidr read range h,
  λ moment said first told. claim_write-tells said (λ revision. claim_confirm node cidr kept) told (λ revision few. (
    ((named, range), fits),
    λ second reply also answered. claim_write-tells reply (λ taken. Ends claimed.Confirmed) answered (λ taken little. tt),
  )),
)

claim_kept-tells : (node : List ℕ) (cidr : CidrValue) (read : BlockRead) (revision : ℕ) (state : State) → IsName node → IsCidr cidr → IsSoundRead read → FitsIn64 revision → Tells Any (claim_kept node cidr read revision state)
claim_kept-tells node cidr read revision PendingDeletion named range h fits = (
  ((named, range), fits),
  λ moment said first told. claim_write-tells said (claim_block node cidr read) told (λ kept few. claim_block-tells node cidr read kept named range h few),
)
claim_kept-tells node cidr read revision Pending named range h fits = claim_block-tells node cidr read revision named range h fits
claim_kept-tells node cidr read revision Confirmed named range h fits = claim_block-tells node cidr read revision named range h fits

claim_found-tells : (node : List ℕ) (cidr : CidrValue) (read : BlockRead) (found : Option (ℕ × Affinity)) → IsName node → IsCidr cidr → IsSoundRead read → IsSoundTie found → Tells Any (claim_found node cidr read found)
claim_found-tells node cidr read None named range h tied = (
  (named, range),
  λ moment said first told. claim_write-tells said (claim_block node cidr read) told (λ kept few. claim_block-tells node cidr read kept named range h few),
)
claim_found-tells node cidr read (Some found) named range h tied = claim_kept-tells node cidr read found.0 found.1.state named range h tied

claim-tells : (node : List ℕ) (cidr : CidrValue) (read : BlockRead) → IsName node → IsCidr cidr → IsSoundRead read → Tells Any (claim node cidr read)
unfolding claim
claim-tells node cidr read named range h =
    ((named, range), λ moment said fits told. claim_found-tells node cidr read (affinity_said said) named range h (affinity_said-sound said told))

after_claim-tells : (races claims : ℕ) (answer : ClaimAnswer) → Tells (Comes Any) (after_claim (left_of races claims) answer)
after_claim-tells races zero claimed.Confirmed = tt
after_claim-tells races (suc claims) claimed.Confirmed = tt
after_claim-tells zero claims claimed.Lost = tt
after_claim-tells (suc races) claims claimed.Lost = tt
after_claim-tells races claims claimed.Full = tt
after_claim-tells races claims claimed.Spent = tt

pub claim_for-tells : (node : List ℕ) (cidr : CidrValue) (read : BlockRead) (left : Left) → IsName node → IsCidr cidr → IsSoundRead read → Tells (Comes Any) (claim_for node cidr read left)
claim_for-tells node cidr read left named range h =
    bound-tells Any (Comes Any) (claim node cidr read) (after_claim left) (claim-tells node cidr read named range h) (λ answer any. after_claim-tells left.races left.claims answer)

-- ---- a release

-- the node is a name, and the block a CIDR
pub record IsSoundPair (tie : Tie) : Type 0 where
  pub node : IsName tie.node
  pub range : IsCidr tie.block

abbrev pub SaysRelease : ReleaseAnswer → Type 0
SaysRelease one = IsSoundAnswer (of_release one)

release_delete-tells : (tie : Tie) (again : Part ReleaseAnswer) (left : Left) (mark : ℕ) → IsSoundPair tie → FitsIn64 mark → Tells (Comes SaysRelease) again → Tells (Comes SaysRelease) (release_delete tie again left mark)
release_delete-tells tie again left mark sound fits h =
    (((sound.node, sound.range), fits), λ moment said first told. on_write-tells SaysRelease said left (λ revision. goes left released.Released) again told (λ revision few. tt) h)

baring-sound : (node : List ℕ) (cidr : CidrValue) (read : BlockRead) → IsCidr cidr → IsSoundRead read → IsSoundName (name_of (baring node cidr read))
baring-sound node cidr None range h = range
baring-sound node cidr (Some found) range h = (h.0.block.range, h.1)

release_block-tells : (tie : Tie) (again : Part ReleaseAnswer) (left : Left) (mark : ℕ) (read : BlockRead) → IsSoundPair tie → FitsIn64 mark → IsSoundRead read → Tells (Comes SaysRelease) again → Tells (Comes SaysRelease) (release_block tie again left mark read)
release_block-tells tie again left mark read sound fits was h = (
  baring-sound tie.node tie.block read sound.range was,
  λ moment said first told. on_write-tells SaysRelease said left (λ revision. release_delete tie again left mark) again told (λ revision few. release_delete-tells tie again left mark sound fits h) h,
)

release_marked-tells : (tie : Tie) (again : Part ReleaseAnswer) (left : Left) (mark : ℕ) (read : BlockRead) (b : Bool) → IsSoundPair tie → FitsIn64 mark → IsSoundRead read → Tells (Comes SaysRelease) again → Tells (Comes SaysRelease) (cond b (release_block tie again left mark read) again)
release_marked-tells tie again left mark read true sound fits was h = release_block-tells tie again left mark read sound fits was h
release_marked-tells tie again left mark read false sound fits was h = h

release_look-tells : (tie : Tie) (again : Part ReleaseAnswer) (left : Left) (mark : ℕ) → IsSoundPair tie → FitsIn64 mark → Tells (Comes SaysRelease) again → Tells (Comes SaysRelease) (release_look tie again left mark)
release_look-tells tie again left mark sound fits h = (
  sound.range,
  λ moment seen first one. (
    (sound.node, sound.range),
    λ second said also two. release_marked-tells tie again left mark (block_said seen) (is_at_mark mark (affinity_said said)) sound fits (block_said-sound seen one) h,
  ),
)

release_found-tells : (tie : Tie) (again : Part ReleaseAnswer) (left : Left) (moment : ℕ) (found : Option (ℕ × Affinity)) → IsSoundPair tie → FitsIn64 moment → IsSoundTie found → Tells (Comes SaysRelease) again → Tells (Comes SaysRelease) (release_found tie again left moment found)
release_found-tells tie again left moment None sound fits tied h = fits
release_found-tells tie again left moment (Some found) sound fits tied h = (
  ((sound.node, sound.range), tied),
  λ second said also told. on_write-tells SaysRelease said left (release_look tie again left) again told (λ mark few. release_look-tells tie again left mark sound few h) h,
)

release_once-tells : (tie : Tie) → IsSoundPair tie → (again : Part ReleaseAnswer) (left : Left) → Tells (Comes SaysRelease) again → Tells (Comes SaysRelease) (release_once tie again left)
release_once-tells tie sound again left h =
    ((sound.node, sound.range), λ moment said fits told. release_found-tells tie again left moment (affinity_said said) sound fits (affinity_said-sound said told) h)

pub release-tells : (node : List ℕ) (cidr : CidrValue) → IsName node → IsCidr cidr → Tells SaysRelease (release node cidr)
release-tells node cidr named range =
    let tie : Tie = record { node = node; block = cidr } in
    settled-tells SaysRelease release_stops (with_retries (release_once tie) all_left)
    (record { again = λ lost claims few little. (few, omega arith); full = tt; count_full = λ moment fits. tt; spent = tt })
    (tries-tells SaysRelease (release_once tie) (release_once-tells tie (record { node = named; range = range })) 63 63)

-- ---- assigning

-- the block has a CIDR, and its revision fits 64 bits
pub record IsSoundTarget (target : Target) : Type 0 where
  pub range : IsCidr target.block.cidr
  pub revision : FitsIn64 target.revision

-- the moment of the write
abbrev pub IsSoundDone : Option Assigned → Type 0
IsSoundDone None = Unit {0}
IsSoundDone (Some done) = FitsIn64 done.moment

assign_lost-tells : (attributes : Attributes) (target : Target) (races claims : ℕ) → IsHandleId attributes.handle → Tells (Comes IsSoundDone) (assign_lost attributes target (left_of races claims))
assign_lost-tells attributes target zero claims named = tt
assign_lost-tells attributes target (suc races) claims named =
    followed-tells Any IsSoundDone (lower (credit_of attributes.handle target.block.cidr 1) (left_of races claims)) (λ now done. goes now None)
    (lower-tells (credit_of attributes.handle target.block.cidr 1) (left_of races claims) named) (λ now done any. tt)

assign_block-tells : (attributes : Attributes) (target : Target) (left : Left) → IsHandleId attributes.handle → IsSoundTarget target → Tells (Comes IsSoundDone) (assign_block attributes target left)
assign_block-tells attributes target left named sound = (
  (sound.range, sound.revision),
  λ moment said fits told. on_write-tells IsSoundDone said left (λ taken. goes left (Some (record { moment = moment; stamp = target.block.sequence + 1 }))) (assign_lost attributes target left) told (λ taken few. fits) (assign_lost-tells attributes target left.races left.claims named),
)

pub assign-tells : (attributes : Attributes) (target : Target) (left : Left) → IsHandleId attributes.handle → IsSoundTarget target → Tells (Comes IsSoundDone) (assign attributes target left)
assign-tells attributes target left named sound =
    followed-tells Any IsSoundDone (raise attributes.handle target.block.cidr left) (λ now done. assign_block attributes target now)
    (raise-tells attributes.handle target.block.cidr left named) (λ now done any. assign_block-tells attributes target now named sound)
