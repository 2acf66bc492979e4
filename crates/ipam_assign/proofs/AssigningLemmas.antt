-- What is left of an assignment after the raising and after the lowering of the count.
use Rattle.std.proofs.Common.{◌≡◌, refl, sym, ap, ◌∙◌, ℕ, List, Some, None, IsSome}
use Rattle.ipam_addr.specs.Shape.{CidrValue}
use Rattle.ipam_block.specs.Shape.{BlockValue}
use Rattle.ipam_records.specs.Hearing.{MayHear}
use Rattle.ipam_records.specs.Said.{Said}
use Rattle.ipam_records.specs.Word.{next_call, after_reply, answer_in}
use Rattle.ipam_model.specs.declared.part.Left.{Left}
use Rattle.ipam_model.specs.declared.part.Outcome.{Outcome}
use Rattle.ipam_model.specs.declared.part.Outcome.TheVariants.{Went, Stops}
use Rattle.ipam_block.specs.declared.allocation.Attributes.{Attributes}
use Rattle.ipam_block.specs.Operations.{next_block, block_with_ordinal}
use Rattle.ipam_model.specs.Assigning.{assign, target_in}
use Rattle.ipam_model.specs.Counting.{raise as raise_count}
use Rattle.ipam_model.specs.Step.{Part, part_then, onward}
use Rattle.ipam_parts.specs.declared.lowering.Lowering.{Lowering}
use Rattle.ipam_parts.specs.declared.raising.Raising.{Raising}
use Rattle.ipam_parts.specs.declared.raising.Stage.{Stage as RaiseStage}
use Rattle.ipam_parts.specs.declared.raising.Stage.TheVariants as raise
use Rattle.ipam_parts.specs.Lowering.{lowering_rest}
use Rattle.ipam_parts.specs.Raising.{raising_at, raising_rest}
use Rattle.ipam_assign.specs.Assigning.{nothing, none_after, write_after}
use Rattle.ipam_parts.proofs.BoundLaws.{asked_bound, heard_bound, may_hear_bound, goes_on_bound, ended_bound}
use Rattle.ipam_parts.proofs.FreeingLemmas.{lowering_asks}

raising_asks_at : (id : List ℕ) (cidr : CidrValue) (left : Left) (stage : RaiseStage)
    → IsSome (next_call (raising_at id cidr left stage))
raising_asks_at id cidr left raise.Reads = refl
raising_asks_at id cidr left (raise.Writes raised) = refl

-- a raising has a call to make
pub raising_asks : (id : List ℕ) (r : Raising) → IsSome (next_call (raising_rest id r))
raising_asks id r = raising_asks_at id r.cidr r.left r.stage

-- ---- while the count is raised

pub asks_raising : (id : List ℕ) (r : Raising) (b : BlockValue) (revision : ℕ)
    → next_call (part_then (raising_rest id r) (write_after id b revision)) ≡ next_call (raising_rest id r)
asks_raising id r b revision = asked_bound (raising_rest id r) (onward (write_after id b revision)) (raising_asks id r)

pub hears_raising : (id : List ℕ) (r : Raising) (b : BlockValue) (revision moment : ℕ) (said : Said)
    → after_reply (part_then (raising_rest id r) (write_after id b revision)) moment said
    ≡ part_then (after_reply (raising_rest id r) moment said) (write_after id b revision)
hears_raising id r b revision moment said =
    heard_bound (raising_rest id r) (onward (write_after id b revision)) moment said (raising_asks id r)

-- ---- while it is lowered

pub asks_lowering : (id : List ℕ) (l : Lowering)
    → next_call (part_then (lowering_rest id l) nothing) ≡ next_call (lowering_rest id l)
asks_lowering id l = asked_bound (lowering_rest id l) (onward nothing) (lowering_asks id l)

pub hears_lowering : (id : List ℕ) (l : Lowering) (moment : ℕ) (said : Said)
    → after_reply (part_then (lowering_rest id l) nothing) moment said ≡ part_then (after_reply (lowering_rest id l) moment said) nothing
hears_lowering id l moment said = heard_bound (lowering_rest id l) (onward nothing) moment said (lowering_asks id l)

pub may_hear_lowering : (id : List ℕ) (l : Lowering) (said : Said)
    → MayHear (part_then (lowering_rest id l) nothing) said → MayHear (lowering_rest id l) said
may_hear_lowering id l said may = may_hear_bound (lowering_rest id l) (onward nothing) said (lowering_asks id l) may

none_onward : (outcome : Outcome (Unit {0})) → answer_in (onward nothing outcome) ≡ Some (none_after outcome)
none_onward (Went left done) = refl
none_onward (Stops left why) = refl

pub lowering_ends : (part : Part (Unit {0})) (outcome : Outcome (Unit {0})) → Some outcome ≡ answer_in part
    → Some (none_after outcome) ≡ answer_in (part_then part nothing)
lowering_ends part outcome is = sym (ap answer_in (ended_bound part (onward nothing) outcome is) ∙ none_onward outcome)

pub lowering_goes_on : (part : Part (Unit {0})) → None ≡ answer_in part → None ≡ answer_in (part_then part nothing)
lowering_goes_on part none = goes_on_bound part (onward nothing) none

-- ---- before it begins

pub begins : (attributes : Attributes) (revision : ℕ) (b new : BlockValue) (ordinal : ℕ) (left : Left) (part : Part (Unit {0}))
    → part ≡ raise_count attributes.handle b.cidr left → new ≡ block_with_ordinal (next_block b) ordinal attributes
    → part_then part (write_after attributes.handle new revision) ≡ assign attributes (target_in (revision, b) ordinal) left
begins attributes revision b new ordinal left part is made =
    ap (λ p. part_then p (write_after attributes.handle new revision)) is
    ∙ ap (λ n. part_then (raise_count attributes.handle b.cidr left) (write_after attributes.handle n revision)) made
