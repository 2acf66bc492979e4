-- What is left of the freeing of addresses before each of its tries, and after its lowering.
use native.Mathlib.Omega.{arith}
use Rattle.std.proofs.Common.{◌≡◌, ◌<◌, ◌^◌, refl, sym, ap, ◌∙◌, ℕ, zero, suc, List, Option, Some, None, IsSome, IfSome}
use Rattle.std.specs.List.{count_by}
use Rattle.ipam_block.specs.Operations.{block_without, next_block}
use Rattle.ipam_addr.specs.Shape.{CidrValue}
use Rattle.ipam_block.specs.Shape.{BlockValue}
use Rattle.ipam_records.specs.declared.key.Key.TheVariants as key
use Rattle.ipam_records.specs.declared.record.Record.TheVariants as record_of
use Rattle.ipam_records.specs.Hearing.{MayHear}
use Rattle.ipam_records.specs.Said.{Said, Found, Missing, Listed, Can, Exists, Conflict, Full, Spent}
use Rattle.ipam_records.specs.declared.call.Call.TheVariants.{Update}
use Rattle.ipam_records.specs.Label.{idle}
use Rattle.ipam_records.specs.Word.{Asks, Ends, next_call, after_reply, answer_in}
use Rattle.ipam_model.specs.declared.part.Left.{Left}
use Rattle.ipam_model.specs.declared.part.Outcome.{Outcome}
use Rattle.ipam_model.specs.declared.part.Outcome.TheVariants.{Went, Stops}
use Rattle.ipam_model.specs.Counting.{credit_of, free, free_once, free_these, lower}
use Rattle.ipam_model.specs.Step.{Part, part_then, onward}
use Rattle.ipam_parts.specs.declared.freeing.Picks.{Picks}
use Rattle.ipam_parts.specs.declared.freeing.Stage.TheVariants.{Reads, Writes}
use Rattle.ipam_parts.specs.declared.lowering.Lowering.{Lowering}
use Rattle.ipam_parts.specs.declared.lowering.Stage.TheVariants as lower
use Rattle.ipam_model.specs.Reads.{block_said}
use Rattle.ipam_parts.specs.declared.freeing.Freed.{Freed}
use Rattle.ipam_parts.specs.Freeing.{what_of, picked, freeing_again, with_amount, freeing_found, freeing_written, amount_in, freeing_at}
use Rattle.ipam_parts.specs.Lowering.{lowering_at, lowering_rest}
use Rattle.ipam_parts.specs.declared.lowering.Stage.{Stage as LowerStage}
use Rattle.ipam_parts.specs.Writes.{write_end}
use Rattle.ipam_parts.specs.declared.write_end.WriteEnd.TheVariants.{Took}
use Rattle.ipam_parts.proofs.BoundLaws.{asked_bound, heard_bound, may_hear_bound, goes_on_bound, ended_bound}
use Rattle.ipam_parts.proofs.HearingFacts.{found_block_counted}
use Rattle.ipam_parts.proofs.TryLaws.{retried_once}

pub begins : (id : List ℕ) (cidr : CidrValue) (picks : Picks) (left : Left)
    → freeing_at id cidr picks left Reads ≡ free (what_of id cidr picks) left
begins id cidr picks left = sym (retried_once (free_once (what_of id cidr picks)) left)

lowering_asks_at : (id : List ℕ) (cidr : CidrValue) (amount : ℕ) (left : Left) (stage : LowerStage)
    → IsSome (next_call (lowering_at id cidr amount left stage))
lowering_asks_at id cidr amount left lower.Reads = refl
lowering_asks_at id cidr amount left (lower.Writes lowered) = refl

-- a lowering has a call to make
pub lowering_asks : (id : List ℕ) (l : Lowering) → IsSome (next_call (lowering_rest id l))
lowering_asks id l = lowering_asks_at id l.cidr l.amount l.left l.stage

-- while the count is lowered, the call is the lowering's
pub asks_lowering : (id : List ℕ) (l : Lowering) (amount : ℕ)
    → next_call (part_then (lowering_rest id l) (with_amount amount)) ≡ next_call (lowering_rest id l)
asks_lowering id l amount = asked_bound (lowering_rest id l) (onward (with_amount amount)) (lowering_asks id l)

pub hears_lowering : (id : List ℕ) (l : Lowering) (amount moment : ℕ) (said : Said)
    → after_reply (part_then (lowering_rest id l) (with_amount amount)) moment said
    ≡ part_then (after_reply (lowering_rest id l) moment said) (with_amount amount)
hears_lowering id l amount moment said =
    heard_bound (lowering_rest id l) (onward (with_amount amount)) moment said (lowering_asks id l)

pub may_hear_lowering : (id : List ℕ) (l : Lowering) (amount : ℕ) (said : Said)
    → MayHear (part_then (lowering_rest id l) (with_amount amount)) said → MayHear (lowering_rest id l) said
may_hear_lowering id l amount said may =
    may_hear_bound (lowering_rest id l) (onward (with_amount amount)) said (lowering_asks id l) may

onward_amount : (amount : ℕ) (outcome : Outcome (Unit {0}))
    → answer_in (onward (with_amount amount) outcome) ≡ Some (amount_in amount outcome)
onward_amount amount (Went left done) = refl
onward_amount amount (Stops left why) = refl

-- once the lowering has come to an end, so has the whole
pub lowering_ends : (part : Part (Unit {0})) (amount : ℕ) (outcome : Outcome (Unit {0})) → Some outcome ≡ answer_in part
    → Some (amount_in amount outcome) ≡ answer_in (part_then part (with_amount amount))
lowering_ends part amount outcome is =
    sym (ap answer_in (ended_bound part (onward (with_amount amount)) outcome is) ∙ onward_amount amount outcome)

pub lowering_goes_on : (part : Part (Unit {0})) (amount : ℕ) → None ≡ answer_in part
    → None ≡ answer_in (part_then part (with_amount amount))
lowering_goes_on part amount none = goes_on_bound part (onward (with_amount amount)) none

lowers : (id : List ℕ) (cidr : CidrValue) (amount count lowered : ℕ) (left : Left) (l : Lowering)
    → lowering_rest id l ≡ lower (credit_of id cidr lowered) left → lowered ≡ amount → count ≡ amount
    → part_then (lowering_rest id l) (with_amount count) ≡ part_then (lower (credit_of id cidr amount) left) (with_amount amount)
lowers id cidr amount count lowered left l is same counted =
    ap (λ part. part_then part (with_amount count)) is
    ∙ ap (λ n. part_then (lower (credit_of id cidr n) left) (with_amount count)) same
    ∙ ap (λ n. part_then (lower (credit_of id cidr amount) left) (with_amount n)) counted

-- once the block is written, the count is lowered by as much
pub took_written : (id : List ℕ) (cidr : CidrValue) (picks : Picks) (left : Left) (amount count lowered revision : ℕ) (reply : Said) (l : Lowering)
    → write_end reply ≡ Took revision → lowering_rest id l ≡ lower (credit_of id cidr lowered) left
    → lowered ≡ amount → count ≡ amount
    → part_then (lowering_rest id l) (with_amount count) ≡ freeing_written id cidr picks left amount reply
took_written id cidr picks left amount count lowered revision (Can given) l took is same counted =
    lowers id cidr amount count lowered left l is same counted
took_written id cidr picks left amount count lowered revision (Found at found) l took is same counted = absurd (cc took)
took_written id cidr picks left amount count lowered revision Missing l took is same counted = absurd (cc took)
took_written id cidr picks left amount count lowered revision (Listed rows) l took is same counted = absurd (cc took)
took_written id cidr picks left amount count lowered revision (Exists at) l took is same counted = absurd (cc took)
took_written id cidr picks left amount count lowered revision (Conflict at) l took is same counted = absurd (cc took)
took_written id cidr picks left amount count lowered revision Full l took is same counted = absurd (cc took)
took_written id cidr picks left amount count lowered revision Spent l took is same counted = absurd (cc took)

-- ---- the read

counted_in : (found : Option (ℕ × BlockValue)) (revision : ℕ) (b : BlockValue) → found ≡ Some (revision, b)
    → IfSome found (λ f. f.1.sequence < 2 ^ 62) → b.sequence < 2 ^ 62
counted_in None revision b is counted = absurd (cc is)
counted_in (Some f) revision b is counted = grind arith

-- the block that is read can be written once more
pub read_counted : (id : List ℕ) (cidr : CidrValue) (picks : Picks) (left : Left) (said : Said) (revision : ℕ) (b : BlockValue)
    → MayHear (freeing_at id cidr picks left Reads) said → block_said said ≡ Some (revision, b) → b.sequence < 2 ^ 62
read_counted id cidr picks left said revision b may is =
    counted_in (block_said said) revision b is (found_block_counted (key.Block cidr) said may.0)

positive : (n : ℕ) → (n ≡ 0 → ⊥) → 0 < n
positive zero none = absurd (none refl)
positive (suc n) none = omega arith

frees_amount : (id : List ℕ) (cidr : CidrValue) (picks : Picks) (left : Left) (found : ℕ × BlockValue) (amount : ℕ)
    → 0 < amount
    → Asks idle (Update (record_of.Block (block_without (picked id picks) (next_block found.1))) found.0)
    (λ moment reply. freeing_written id cidr picks left amount reply)
    ≡ free_these (what_of id cidr picks) (freeing_again id cidr picks left) left amount found
frees_amount id cidr picks left found zero some = absurd (omega arith)
frees_amount id cidr picks left (revision, b) (suc more) some = refl

freed_same : {block : BlockValue} {revision amount : ℕ} (f : Freed) → f.block ≡ block → f.revision ≡ revision → f.amount ≡ amount
    → (id : List ℕ) (cidr : CidrValue) (picks : Picks) (left : Left)
    → freeing_at id cidr picks left (Writes f)
    ≡ Asks idle (Update (record_of.Block block) revision) (λ moment reply. freeing_written id cidr picks left amount reply)
freed_same f block revision amount id cidr picks left = grind arith

-- a block with something that is picked is written without it
pub frees_some : (id : List ℕ) (cidr : CidrValue) (picks : Picks) (left : Left) (revision : ℕ) (b : BlockValue) (f : Freed) (amount : ℕ)
    → amount ≡ count_by (picked id picks) b.allocations → (amount ≡ 0 → ⊥)
    → f.block ≡ block_without (picked id picks) (next_block b) → f.revision ≡ revision → f.amount ≡ amount
    → freeing_at id cidr picks left (Writes f) ≡ freeing_found id cidr picks left (Some (revision, b))
frees_some id cidr picks left revision b f amount is some made at same =
    freed_same f made at same id cidr picks left
    ∙ frees_amount id cidr picks left (revision, b) amount (positive amount some)
    ∙ ap (λ n. free_these (what_of id cidr picks) (freeing_again id cidr picks left) left n (revision, b)) is

-- and one with nothing is left as it is
pub frees_none : (id : List ℕ) (cidr : CidrValue) (picks : Picks) (left : Left) (revision : ℕ) (b : BlockValue) (amount : ℕ)
    → amount ≡ count_by (picked id picks) b.allocations → amount ≡ 0
    → Ends (Went left 0) ≡ freeing_found id cidr picks left (Some (revision, b))
frees_none id cidr picks left revision b amount is none =
    ap (λ n. free_these (what_of id cidr picks) (freeing_again id cidr picks left) left n (revision, b)) (sym none ∙ is)
