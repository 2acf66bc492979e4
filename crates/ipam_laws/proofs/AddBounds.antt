-- Both kinds of ADD: each lost race costs ten calls at most, and each confirmed claim nine.
use Rattle.std.proofs.Common.{ℕ, zero, suc, ◌+◌, ◌*◌, ◌-◌, ◌≤◌, true, false, Bool, List, [], ◌∷◌, ◌++◌, length, Option, Some, None, arith}
use Rattle.std.proofs.lemmas.List.{length-append}
use Rattle.ipam_addr.specs.declared.address.Family.{Family}
use Rattle.ipam_addr.specs.Shape.{AddrValue, CidrValue}
use Rattle.ipam_block.specs.declared.allocation.Allocation.{Allocation}
use Rattle.ipam_block.specs.declared.allocation.Attributes.{Attributes}
use Rattle.ipam_block.specs.Shape as block
use Rattle.ipam_block.specs.Operations.{holder}
use Rattle.ipam_block.specs.declared.record.Affinity.{Affinity}
use Rattle.ipam_block.specs.declared.state.State.{State}
use Rattle.ipam_block.specs.declared.state.State.TheVariants.{Pending, Confirmed, PendingDeletion}
use Rattle.ipam_records.specs.Said.{Said}
use Rattle.ipam_records.specs.Word.{Ends}
use Rattle.ipam_model.specs.declared.outcome.AddAnswer.{AddAnswer}
use Rattle.ipam_model.specs.declared.outcome.AddThisAnswer.{AddThisAnswer}
use Rattle.ipam_model.specs.declared.outcome.AddThisAnswer.TheVariants as not_affine
use Rattle.ipam_model.specs.declared.outcome.ClaimAnswer.{ClaimAnswer}
use Rattle.ipam_model.specs.declared.outcome.ClaimAnswer.TheVariants as claimed
use Rattle.ipam_model.specs.declared.request.AddRequest.{AddRequest}
use Rattle.ipam_model.specs.Add as add
use Rattle.ipam_model.specs.declared.outcome.Served.{Served}
use Rattle.ipam_model.specs.declared.outcome.Gift.{Gift}
use Rattle.ipam_model.specs.declared.outcome.Served.TheVariants.{Gave, Refused}
use Rattle.ipam_model.specs.Add.{Round}
use Rattle.ipam_model.specs.AddThis as this
use Rattle.ipam_model.specs.Affinities.{BlockRead, on_claim_write, claim, claim_found, claim_kept, claim_block, claim_confirm}
use Rattle.ipam_model.specs.declared.part.Assigned.{Assigned}
use Rattle.ipam_model.specs.Assigning.{Target, target_in, assign, assign_block, assign_lost, after_claim, claim_for}
use Rattle.ipam_model.specs.Choice.{Share, Takes, Claims, Leaves as Refuses, by_share, share_of, Rank, Own, Unconfirmed, Unclaimed, Foreign, Pick, Unknown, Lacks, Picks, pick_of}
use Rattle.ipam_model.specs.Counting.{raise, lower, credit_of}
use Rattle.ipam_model.specs.Reads.{config_said, pools_said, affinity_said, block_said}
use Rattle.ipam_model.specs.declared.part.Left.{Left}
use Rattle.ipam_model.specs.declared.part.Outcome.{Outcome}
use Rattle.ipam_model.specs.declared.part.Stop.{Stop}
use Rattle.ipam_model.specs.declared.part.Stop.TheVariants.{OutOfTries, OutOfClaims, NoRoom, CountAtLimit, NoRevisions}
use Rattle.ipam_model.specs.declared.part.Outcome.TheVariants.{Went, Stops}
use Rattle.ipam_model.specs.Step.{left_of, all_left, Part, goes, stops, rounds, in_rounds}
use Rattle.ipam_model.specs.Usable.{families_if, usable_pool_of}
use Rattle.ipam_pool.specs.declared.pools.Pool.{Pool}
use Rattle.ipam_laws.proofs.Within.{Within, Any, Within-bound, Within-followed, Within-settled, Within-after_write}
use Rattle.ipam_laws.proofs.PartBounds.{worth, Leaves, raise-within, lower-within, free-within, five_reads-within}

-- ---- a claim makes at most four calls

abbrev pub Still : {A : Type 0} → (more : ℕ) → A → ℕ → Type 0
Still more answer count = more ≤ count

claim_confirm-within : (more count : ℕ) (node : List ℕ) (cidr : CidrValue) (kept : ℕ) → more + 1 ≤ count → Within (Still more) (claim_confirm node cidr kept) count
claim_confirm-within more count node cidr kept h = (
  omega arith,
  λ moment said.
      Within-after_write (Still more) said (λ revision. Ends claimed.Confirmed) (Ends claimed.Lost) (Ends claimed.Full) (Ends claimed.Spent) (count - 1)
      (λ revision. omega arith) (omega arith) (omega arith) (omega arith),
)

claim_block-within : (more count : ℕ) (node : List ℕ) (cidr : CidrValue) (read : BlockRead) (kept : ℕ) → more + 2 ≤ count → Within (Still more) (claim_block node cidr read kept) count
claim_block-within more count node cidr read kept h = (
  omega arith,
  λ moment said.
      Within-after_write (Still more) said (λ revision. claim_confirm node cidr kept) (Ends claimed.Lost) (Ends claimed.Full) (Ends claimed.Spent) (count - 1)
      (λ revision. claim_confirm-within more (count - 1) node cidr kept (omega arith)) (omega arith) (omega arith) (omega arith),
)

claim_write-within : (more count : ℕ) (node : List ℕ) (cidr : CidrValue) (read : BlockRead) (said : Said) → more + 2 ≤ count → Within (Still more) (on_claim_write said (claim_block node cidr read)) count
claim_write-within more count node cidr read said h =
    Within-after_write (Still more) said (claim_block node cidr read) (Ends claimed.Lost) (Ends claimed.Full) (Ends claimed.Spent) count
    (λ revision. claim_block-within more count node cidr read revision h) (omega arith) (omega arith) (omega arith)

claim_kept-within : (more count : ℕ) (node : List ℕ) (cidr : CidrValue) (read : BlockRead) (revision : ℕ) (state : State) → more + 3 ≤ count → Within (Still more) (claim_kept node cidr read revision state) count
claim_kept-within more count node cidr read revision PendingDeletion h = (omega arith, λ moment said. claim_write-within more (count - 1) node cidr read said (omega arith))
claim_kept-within more count node cidr read revision Pending h = claim_block-within more count node cidr read revision (omega arith)
claim_kept-within more count node cidr read revision Confirmed h = claim_block-within more count node cidr read revision (omega arith)

claim_found-within : (more count : ℕ) (node : List ℕ) (cidr : CidrValue) (read : BlockRead) (found : Option (ℕ × Affinity)) → more + 3 ≤ count → Within (Still more) (claim_found node cidr read found) count
claim_found-within more count node cidr read None h = (omega arith, λ moment said. claim_write-within more (count - 1) node cidr read said (omega arith))
claim_found-within more count node cidr read (Some (revision, found)) h = claim_kept-within more count node cidr read revision found.state h

pub claim-within : (more count : ℕ) (node : List ℕ) (cidr : CidrValue) (read : BlockRead) → more + 4 ≤ count → Within (Still more) (claim node cidr read) count
unfolding claim
claim-within more count node cidr read h = (omega arith, λ moment said. claim_found-within more (count - 1) node cidr read (affinity_said said) (omega arith))

-- ---- what the calls of a round leave

-- ten for each race that may still be lost, nine for each claim that may still be confirmed
abbrev pub pays : Left → ℕ
pays left = worth 10 9 left

-- an address is assigned, or the race was lost and the next round is paid for
abbrev pub LeavesAssigned : (more : ℕ) → Outcome (Option Assigned) → ℕ → Type 0
LeavesAssigned more (Went left (Some done)) count = pays left + more + 2 ≤ count
LeavesAssigned more (Went left None) count = pays left + more + 10 ≤ count
LeavesAssigned more (Stops left why) count = pays left + more + 1 ≤ count

assign_lost-within : (more races claims count : ℕ) (attributes : Attributes) (target : Target) → 10 * races + 9 * claims + more + 2 ≤ count → Within (LeavesAssigned more) (assign_lost attributes target (left_of races claims)) count
assign_lost-within more zero claims count attributes target h = omega arith
assign_lost-within more (suc races) claims count attributes target h =
    Within-followed (Leaves 10 9 (more + 10)) (LeavesAssigned more) (lower (credit_of attributes.handle target.block.cidr 1) (left_of races claims)) (λ now done. goes now None) count
    (lower-within 10 9 (more + 10) (left_of races claims) count (credit_of attributes.handle target.block.cidr 1) (omega arith) (omega arith))
    (λ now done rest k. omega arith) (λ now why rest k. omega arith)

assign_block-within : (more count : ℕ) (attributes : Attributes) (target : Target) (left : Left) → pays left + more + 3 ≤ count → Within (LeavesAssigned more) (assign_block attributes target left) count
assign_block-within more count attributes target left h = (
  omega arith,
  λ moment said.
      Within-after_write (LeavesAssigned more) said _ (assign_lost attributes target left) (stops left NoRoom) (stops left NoRevisions) (count - 1)
      (λ taken. omega arith) (assign_lost-within more left.races left.claims (count - 1) attributes target (omega arith)) (omega arith) (omega arith),
)

pub assign-within : (more count : ℕ) (attributes : Attributes) (target : Target) (left : Left) → pays left + more + 5 ≤ count → Within (LeavesAssigned more) (assign attributes target left) count
assign-within more count attributes target left h =
    Within-followed (Leaves 10 9 (more + 3)) (LeavesAssigned more) (raise attributes.handle target.block.cidr left) (λ now done. assign_block attributes target now) count
    (raise-within 10 9 (more + 3) left count attributes.handle target.block.cidr (omega arith) (omega arith))
    (λ now done rest k. assign_block-within more rest attributes target now (omega arith)) (λ now why rest k. omega arith)

-- a claim was confirmed or lost, and the next round is paid for
abbrev pub LeavesClaimed : (more : ℕ) → Outcome (Unit {0}) → ℕ → Type 0
LeavesClaimed more (Went left done) count = pays left + more + 10 ≤ count
LeavesClaimed more (Stops left why) count = pays left + more + 1 ≤ count

after_claim-within : (more count races claims : ℕ) (answer : ClaimAnswer) → 10 * races + 9 * claims + more + 1 ≤ count → Within (LeavesClaimed more) (after_claim (left_of races claims) answer) count
after_claim-within more count races zero claimed.Confirmed h = omega arith
after_claim-within more count races (suc claims) claimed.Confirmed h = omega arith
after_claim-within more count zero claims claimed.Lost h = omega arith
after_claim-within more count (suc races) claims claimed.Lost h = omega arith
after_claim-within more count races claims claimed.Full h = h
after_claim-within more count races claims claimed.Spent h = h

pub claim_for-within : (more count : ℕ) (node : List ℕ) (cidr : CidrValue) (read : BlockRead) (left : Left) → pays left + more + 5 ≤ count → Within (LeavesClaimed more) (claim_for node cidr read left) count
claim_for-within more count node cidr read left h =
    Within-bound (Still (pays left + more + 1)) (LeavesClaimed more) (claim node cidr read) (after_claim left) count
    (claim-within (pays left + more + 1) count node cidr read (omega arith))
    (λ answer rest k. after_claim-within more rest left.races left.claims answer k)

-- ---- rounds

module _ {A : Type 0} (P : Outcome A → ℕ → Type 0) (more : ℕ) (round : (Left → Part A) → Left → Part A) where
  -- the rounds that follow stay within what they have
  abbrev pub NextWithin : (Left → Part A) → Type 0
  NextWithin next = (left : Left) (count : ℕ) → pays left + more + 10 ≤ count → Within P (next left) count

  pub rounds-within : ((left : Left) (count : ℕ) → pays left + more + 10 ≤ count → P (Stops left OutOfTries) count)
      → ((next : Left → Part A) → NextWithin next → NextWithin (round next))
      → (many : ℕ) → NextWithin (rounds round many)
  unfolding rounds
  rounds-within out each zero left count h = each (λ now. stops now OutOfTries) out left count h
  rounds-within out each (suc many) left count h = each (rounds round many) (rounds-within out each many) left count h

-- ---- one family

abbrev pub LeavesServed : (more : ℕ) → Outcome Served → ℕ → Type 0
LeavesServed more (Went left (Gave gift)) count = pays left + more + 2 ≤ count
LeavesServed more (Went left (Refused answer)) count = pays left + more + 1 ≤ count
LeavesServed more (Stops left why) count = pays left + more + 1 ≤ count

abbrev ServedWithin : (more : ℕ) → add.NextRound → Type 0
ServedWithin more next = (left : Left) (count : ℕ) → pays left + more + 10 ≤ count → Within (LeavesServed more) (next left) count

after_assign-within : (more : ℕ) (round : Round) (target : Target) (left : Left) (done : Option Assigned) (count : ℕ) → ServedWithin more round.next → LeavesAssigned more (Went left done) count → Within (LeavesServed more) (add.after_assign round target left done) count
after_assign-within more round target left (Some done) count n h = h
after_assign-within more round target left None count n h = n left count h

take_in-within : (more : ℕ) (round : Round) (left : Left) (target : Target) (count : ℕ) → ServedWithin more round.next → pays left + more + 5 ≤ count → Within (LeavesServed more) (add.take_in round left target) count
take_in-within more round left target count n h =
    Within-followed (LeavesAssigned more) (LeavesServed more) (assign round.request.attributes target left) (add.after_assign round target) count
    (assign-within more count round.request.attributes target left h)
    (λ now done rest k. after_assign-within more round target now done rest n k) (λ now why rest k. k)

claim_in-within : (more : ℕ) (round : Round) (left : Left) (slot : CidrValue) (read : BlockRead) (count : ℕ) → ServedWithin more round.next → pays left + more + 5 ≤ count → Within (LeavesServed more) (add.claim_in round left slot read) count
claim_in-within more round left slot read count n h =
    Within-followed (LeavesClaimed more) (LeavesServed more) (claim_for round.request.node slot read left) (λ now done. round.next now) count
    (claim_for-within more count round.request.node slot read left h)
    (λ now done rest k. n now rest k) (λ now why rest k. k)

follow_rank-within : (more : ℕ) (round : Round) (left : Left) (slot : CidrValue) (rank : Rank) (count : ℕ) → ServedWithin more round.next → pays left + more + 5 ≤ count → Within (LeavesServed more) (add.follow_rank round left slot rank) count
follow_rank-within more round left slot (Own found ordinal) count n h = take_in-within more round left (target_in found ordinal) count n h
follow_rank-within more round left slot (Unconfirmed found) count n h = claim_in-within more round left slot (Some found) count n h
follow_rank-within more round left slot (Unclaimed read) count n h = claim_in-within more round left slot read count n h
follow_rank-within more round left slot (Foreign found ordinal) count n h = take_in-within more round left (target_in found ordinal) count n h

follow_pick-within : (more : ℕ) (round : Round) (left : Left) (pick : Pick) (count : ℕ) → ServedWithin more round.next → pays left + more + 5 ≤ count → Within (LeavesServed more) (add.follow_pick round left pick) count
follow_pick-within more round left (Picks ranked) count n h = follow_rank-within more round left ranked.slot ranked.rank count n h
follow_pick-within more round left Lacks count n h = omega arith
follow_pick-within more round left (Unknown place) count n h = omega arith

round-within : (more : ℕ) (request : AddRequest) (family : Family) (next : add.NextRound) → ServedWithin more next → ServedWithin more (add.round_of request family next)
round-within more request family next n left count h =
    five_reads-within (LeavesServed more) family (λ scan seen. add.follow_pick (record { request = request; scan = scan; next = next }) left (pick_of (add.asked_of request family) seen)) count (omega arith) (λ scan seen.
    follow_pick-within more (record { request = request; scan = scan; next = next }) left (pick_of (add.asked_of request family) seen) (count - 1 - 1 - 1 - 1 - 1) n (omega arith))

serve-within : (more : ℕ) (request : AddRequest) (family : Family) → ServedWithin more (add.serve request family)
serve-within more request family left =
    rounds-within (LeavesServed more) more (add.round_of request family) (λ now count h. omega arith) (round-within more request family) (left.races + left.claims) left

-- ---- each wanted family

refuse-within : (request : AddRequest) (gifts : List Gift) (answer : AddAnswer) (left : Left) (count : ℕ) → pays left + 4 * length gifts ≤ count → Within Any (add.refuse request gifts answer left) count
refuse-within request [] answer left count h = tt
refuse-within request (gift ∷ gifts) answer left count h =
    Within-followed (Leaves 10 9 (4 * length gifts)) Any (add.free_gift request gift left) (λ now amount. add.refuse request gifts answer now) count
    (free-within 10 9 (4 * length gifts) left count _ (omega arith) (omega arith))
    (λ now amount rest k. refuse-within request gifts answer now rest k) (λ now why rest k. tt)

after_stop-within : (request : AddRequest) (gifts : List Gift) (left : Left) (why : Stop) (count : ℕ) → pays left + 4 * length gifts ≤ count → Within Any (add.after_stop request gifts left why) count
after_stop-within request gifts left OutOfTries count h = tt
after_stop-within request gifts left OutOfClaims count h = tt
after_stop-within request gifts left NoRoom count h = refuse-within request gifts _ left count h
after_stop-within request gifts left (CountAtLimit moment) count h = refuse-within request gifts _ left count h
after_stop-within request gifts left NoRevisions count h = tt

after_family-within : (more : ℕ) (request : AddRequest) (gifts : List Gift) (rest : Gift → Left → Part AddAnswer) (o : Outcome Served) (count : ℕ) → 4 * length gifts ≤ more + 1 → ((gift : Gift) (left : Left) (count : ℕ) → pays left + more + 2 ≤ count → Within Any (rest gift left) count) → LeavesServed more o count → Within Any (add.after_family request gifts rest o) count
after_family-within more request gifts rest (Went left (Gave gift)) count few r h = r gift left count h
after_family-within more request gifts rest (Went left (Refused answer)) count few r h = refuse-within request gifts answer left count (omega arith)
after_family-within more request gifts rest (Stops left why) count few r h = after_stop-within request gifts left why count (omega arith)

-- twelve calls for each family are enough beside the races and the claims
pub add_each-within : (request : AddRequest) (gifts : List Gift) (families : List Family) (left : Left) (count : ℕ) → pays left + 12 * length families + 4 * length gifts ≤ count → Within Any (add.add_each request gifts families left) count
unfolding add.add_each
add_each-within request gifts [] left count h = tt
add_each-within request gifts (family ∷ families) left count h =
    let more = 12 * length families + 4 * length gifts + 2 in
    Within-bound (LeavesServed more) Any (add.serve request family left) (add.after_family request gifts (λ gift now. add.add_each request (gifts ++ gift ∷ []) families now)) count
    (serve-within more request family left count (omega arith))
    (λ o rest k. after_family-within more request gifts (λ gift now. add.add_each request (gifts ++ gift ∷ []) families now) o rest (omega arith)
    (λ gift now remaining h'. add_each-within request (gifts ++ gift ∷ []) families now remaining (omega (arith, length-append gifts (gift ∷ [])))) k)

two-families : (ipv4 ipv6 : Bool) → length (families_if ipv4 ipv6) ≤ 2
two-families true true = omega arith
two-families true false = omega arith
two-families false true = omega arith
two-families false false = omega arith

pub add-within : (request : AddRequest) → Within Any (add.add_word request) 2000
add-within request =
    let few = two-families request.ipv4 request.ipv6 in
    Within-settled Any add.add_stops (add.add_each request [] (families_if request.ipv4 request.ipv6) all_left) 2000
    (add_each-within request [] (families_if request.ipv4 request.ipv6) all_left 2000 (omega arith))

-- ---- one address

abbrev ThisWithin : this.NextThisRound → Type 0
ThisWithin next = (left : Left) (count : ℕ) → pays left + 0 + 10 ≤ count → Within Any (next left) count

this_assigned-within : (wanted : this.Wanted) (next : this.NextThisRound) (looked : this.LookedAtBlock) (left : Left) (done : Option Assigned) (count : ℕ) → ThisWithin next → LeavesAssigned 0 (Went left done) count → Within Any (this.this_assigned wanted next looked left done) count
this_assigned-within wanted next looked left (Some done) count n h = tt
this_assigned-within wanted next looked left None count n h = n left count h

this_take-within : (wanted : this.Wanted) (next : this.NextThisRound) (left : Left) (looked : this.LookedAtBlock) (found : ℕ × block.BlockValue) (count : ℕ) → ThisWithin next → pays left + 5 ≤ count → Within Any (this.this_take wanted next left looked found) count
this_take-within wanted next left looked found count n h =
    let target = target_in found (wanted.address.number - looked.cidr.base) in
    Within-followed (LeavesAssigned 0) Any (assign wanted.request.attributes target left) (this.this_assigned wanted next looked) count
    (assign-within 0 count wanted.request.attributes target left (omega arith))
    (λ now done rest k. this_assigned-within wanted next looked now done rest n k) (λ now why rest k. tt)

this_claim-within : (wanted : this.Wanted) (next : this.NextThisRound) (left : Left) (looked : this.LookedAtBlock) (read : BlockRead) (count : ℕ) → ThisWithin next → pays left + 5 ≤ count → Within Any (this.this_claim wanted next left looked read) count
this_claim-within wanted next left looked read count n h =
    Within-followed (LeavesClaimed 0) Any (claim_for wanted.request.node looked.cidr read left) (λ now done. next now) count
    (claim_for-within 0 count wanted.request.node looked.cidr read left (omega arith))
    (λ now done rest k. n now rest k) (λ now why rest k. tt)

this_free-within : (wanted : this.Wanted) (next : this.NextThisRound) (left : Left) (looked : this.LookedAtBlock) (found : ℕ × block.BlockValue) (count : ℕ) → ThisWithin next → pays left + 5 ≤ count → Within Any (this.this_free wanted next left looked found) count
this_free-within wanted next left looked found count n h = from (share_of looked.rules.config.strict wanted.request.node found.1)
  where
    from : (share : Share) → Within Any (by_share share (this.this_take wanted next left looked found) (this.this_claim wanted next left looked (Some found)) (goes left (not_affine.NotAffine looked.cidr looked.b))) count
    from Takes = this_take-within wanted next left looked found count n h
    from Claims = this_claim-within wanted next left looked (Some found) count n h
    from Refuses = tt

this_held-within : (free : Part AddThisAnswer) (left : Left) (looked : this.LookedAtBlock) (held : Option Allocation) (count : ℕ) → Within Any free count → Within Any (this.this_held free left looked held) count
this_held-within free left looked None count f = f
this_held-within free left looked (Some held) count f = tt

this_block-within : (wanted : this.Wanted) (next : this.NextThisRound) (left : Left) (looked : this.LookedAtBlock) (read : BlockRead) (count : ℕ) → ThisWithin next → pays left + 5 ≤ count → Within Any (this.this_block wanted next left looked read) count
this_block-within wanted next left looked None count n h = this_claim-within wanted next left looked None count n h
this_block-within wanted next left looked (Some found) count n h =
    this_held-within (this.this_free wanted next left looked found) left looked (holder found.1 (wanted.address.number - looked.cidr.base)) count
    (this_free-within wanted next left looked found count n h)

this_in_pool-within : (wanted : this.Wanted) (next : this.NextThisRound) (left : Left) (rules : this.RulesRead) (pool : Option Pool) (count : ℕ) → ThisWithin next → pays left + 6 ≤ count → Within Any (this.this_in_pool wanted next left rules pool) count
this_in_pool-within wanted next left rules None count n h = tt
this_in_pool-within wanted next left rules (Some pool) count n h = (
  omega arith,
  λ b said. this_block-within wanted next left (record { rules = rules; cidr = this.slot_holding pool wanted.address; b = b }) (block_said said) (count - 1) n (omega arith),
)

this_round-within : (wanted : this.Wanted) (next : this.NextThisRound) → ThisWithin next → ThisWithin (this.this_round wanted next)
this_round-within wanted next n left count h = (
  omega arith,
  λ c config. (
    omega arith,
    λ p pools. this_in_pool-within wanted next left (record { config = config_said config; c = c; p = p }) (usable_pool_of (this.asked_of_this wanted.request wanted.address) wanted.address (pools_said pools)) (count - 1 - 1) n (omega arith),
  ),
)

pub add_this-within : (request : AddRequest) (address : AddrValue) → Within Any (this.add_this_word request address) 2000
add_this-within request address =
    let wanted : this.Wanted = record { request = request; address = address } in
    Within-settled Any this.add_this_stops (in_rounds (this.this_round wanted) all_left) 2000
    (rounds-within Any 0 (this.this_round wanted) (λ now count h. tt) (this_round-within wanted) 126 all_left 2000 (omega arith))
