-- What is left of the rounds of a family, step by step.
use Rattle.std.proofs.Common.{◌≡◌, refl, sym, ap, subst, ◌∙◌, ◌+◌, ℕ, zero, suc, List, Option, Some, None, IsSome}
use Rattle.ipam_addr.specs.declared.address.Family.{Family}
use Rattle.ipam_block.specs.Operations.{ordinal_address}
use Rattle.ipam_records.specs.Hearing.{MayHear}
use Rattle.ipam_records.specs.Said.{Said}
use Rattle.ipam_records.specs.Word.{Word, next_call, after_reply, answer_in, bound}
use Rattle.ipam_parts.specs.Claim.{claim_rest, claim_leaves}
use Rattle.ipam_parts.specs.declared.claim.ClaimProc.{ClaimProc}
use Rattle.ipam_parts.specs.declared.claim.ClaimTurned.{ClaimTurned}
use Rattle.ipam_model.specs.declared.answer.Scan.{Scan}
use Rattle.ipam_model.specs.declared.outcome.ClaimAnswer.{ClaimAnswer}
use Rattle.ipam_model.specs.declared.outcome.Served.TheVariants as served
use Rattle.ipam_model.specs.declared.part.Assigned.{Assigned}
use Rattle.ipam_model.specs.declared.part.Left.{Left}
use Rattle.ipam_model.specs.declared.part.Outcome.TheVariants.{Stops}
use Rattle.ipam_model.specs.declared.part.Stop.TheVariants.{OutOfTries}
use Rattle.ipam_model.specs.declared.request.AddRequest.{AddRequest}
use Rattle.ipam_model.specs.Add.{asked_of, follow_pick, round_of, serve, take_in}
use Rattle.ipam_model.specs.Add as model
use Rattle.ipam_model.specs.Assigning.{Target, after_claim, assign}
use Rattle.ipam_model.specs.Step.{Part, goes as went, part_then, onward, rounds}
use Rattle.ipam_model.specs.Usable.{Asked}
use Rattle.ipam_parts.proofs.BoundLaws.{asked_bound, heard_bound, may_hear_bound}
use Rattle.ipam_assign.specs.Assigning.{PartAssigned, assigning_leaves, assigning_rest}
use Rattle.ipam_assign.specs.PlaceShape.{PlaceValue}
use Rattle.ipam_assign.specs.Rounds.{fewer_than, next_of}
use Rattle.ipam_assign.specs.Scanning.{Chose, scanning_at}
use Rattle.ipam_assign.specs.declared.assigning.Assigning.{Assigning}
use Rattle.ipam_assign.specs.declared.assigning.AssigningTurned.{AssigningTurned}
use Rattle.ipam_assign.specs.declared.rounds.Rounds.{Rounds}
use Rattle.ipam_assign.specs.declared.scanning.Learned.{Learned}
use Rattle.ipam_assign.specs.declared.scanning.Stage.{Stage as ScanStage}
use Rattle.ipam_assign.proofs.AddThisLemmas.{asks_on, asks_open, assigning_asks, claim_asks}
use Rattle.ipam_assign.proofs.ProbeLemmas.{scanning_asks}
use Rattle.ipam_assign.proofs.RoundLaws.{rounds_once}
use Rattle.ipam_assign.specs.Grant.{gift_at}
use Rattle.ipam_assign.specs.declared.grant.Spot.{Spot}
use Rattle.ipam_assign.specs.declared.serving.Serving.{Serving}
use Rattle.ipam_assign.specs.declared.serving.Step.{Step}
use Rattle.ipam_assign.specs.declared.serving.Step.TheVariants.{Scans, Claims, Assigns}
use Rattle.ipam_assign.specs.Serving.{Going, going, next_for, then_next, round_at, after_scan, after_assigned, scans_part, claims_part, assigns_part, serving_at, serving_rest, anew, scans_leaves, claims_leaves, assigns_leaves}

-- ---- each step has a call to make

pub step_asks : (g : Going) (left : Left) (step : Step) → IsSome (next_call (serving_at g left step))
step_asks g left (Scans scanning) =
    asks_on (scanning_at (asked_of g.request g.family) scanning.stage) (after_scan g left)
    (scanning_asks (asked_of g.request g.family) scanning.stage)
step_asks g left (Claims claim) =
    asks_on (bound (claim_rest claim) (after_claim left)) (onward (then_next g))
    (asks_on (claim_rest claim) (after_claim left) (claim_asks claim))
step_asks g left (Assigns spot assigning) =
    asks_on (assigning_rest g.request.attributes.handle assigning) (onward (after_assigned g spot.scan spot.place))
    (assigning_asks g.request.attributes.handle assigning)

pub serving_asks : (request : AddRequest) (s : Serving) → IsSome (next_call (serving_rest request s))
serving_asks request s = step_asks (going request s) s.left s.step

pub step_goes_on : (g : Going) (left : Left) (step : Step) → None ≡ answer_in (serving_at g left step)
step_goes_on g left step = asks_open (serving_at g left step) (step_asks g left step)

-- ---- while the reads, a claim or an assignment go on

pub asks_scan : (g : Going) (left : Left) (stage : ScanStage)
    → next_call (scans_part g left stage) ≡ next_call (scanning_at (asked_of g.request g.family) stage)
asks_scan g left stage =
    asked_bound (scanning_at (asked_of g.request g.family) stage) (after_scan g left)
    (scanning_asks (asked_of g.request g.family) stage)

pub asks_claim : (g : Going) (left : Left) (claim : ClaimProc) → next_call (claims_part g left claim) ≡ next_call (claim_rest claim)
asks_claim g left claim =
    asked_bound (bound (claim_rest claim) (after_claim left)) (onward (then_next g))
    (asks_on (claim_rest claim) (after_claim left) (claim_asks claim))
    ∙ asked_bound (claim_rest claim) (after_claim left) (claim_asks claim)

pub asks_assign : (g : Going) (spot : Spot) (a : Assigning)
    → next_call (assigns_part g spot a) ≡ next_call (assigning_rest g.request.attributes.handle a)
asks_assign g spot a =
    asked_bound (assigning_rest g.request.attributes.handle a) (onward (after_assigned g spot.scan spot.place))
    (assigning_asks g.request.attributes.handle a)

pub hears_scan : (g : Going) (left : Left) (stage : ScanStage) (asked_by : Asked) (leaves : Word Chose) (moment : ℕ) (said : Said)
    → asked_by ≡ asked_of g.request g.family → leaves ≡ after_reply (scanning_at asked_by stage) moment said
    → bound leaves (after_scan g left) ≡ after_reply (scans_part g left stage) moment said
hears_scan g left stage asked_by leaves moment said same is =
    ap (λ w. bound w (after_scan g left)) is
    ∙ ap (λ a. bound (after_reply (scanning_at a stage) moment said) (after_scan g left)) same
    ∙ sym (heard_bound (scanning_at (asked_of g.request g.family) stage) (after_scan g left) moment said
    (scanning_asks (asked_of g.request g.family) stage))

pub may_hear_scan : (g : Going) (left : Left) (stage : ScanStage) (asked_by : Asked) (said : Said)
    → asked_by ≡ asked_of g.request g.family → MayHear (scans_part g left stage) said → MayHear (scanning_at asked_by stage) said
may_hear_scan g left stage asked_by said same may =
    subst (λ (a : Asked). MayHear (scanning_at a stage) said) (sym same)
    (may_hear_bound (scanning_at (asked_of g.request g.family) stage) (after_scan g left) said
    (scanning_asks (asked_of g.request g.family) stage) may)

pub hears_claim : (g : Going) (left : Left) (claim : ClaimProc) (turned : ClaimTurned) (moment : ℕ) (said : Said)
    → claim_leaves claim turned ≡ after_reply (claim_rest claim) moment said
    → claims_leaves g left (Claims claim) turned ≡ after_reply (claims_part g left claim) moment said
hears_claim g left claim turned moment said is =
    ap (λ (w : Word ClaimAnswer). part_then (bound w (after_claim left)) (then_next g)) is
    ∙ sym (heard_bound (bound (claim_rest claim) (after_claim left)) (onward (then_next g)) moment said
    (asks_on (claim_rest claim) (after_claim left) (claim_asks claim))
    ∙ ap (λ (w : Part (Unit {0})). part_then w (then_next g))
    (heard_bound (claim_rest claim) (after_claim left) moment said (claim_asks claim)))

pub may_hear_claim : (g : Going) (left : Left) (claim : ClaimProc) (said : Said)
    → MayHear (claims_part g left claim) said → MayHear (claim_rest claim) said
may_hear_claim g left claim said may =
    may_hear_bound (claim_rest claim) (after_claim left) said (claim_asks claim)
    (may_hear_bound (bound (claim_rest claim) (after_claim left)) (onward (then_next g)) said
    (asks_on (claim_rest claim) (after_claim left) (claim_asks claim)) may)

pub hears_assign : (g : Going) (left : Left) (spot : Spot) (a : Assigning) (turned : AssigningTurned) (moment : ℕ) (said : Said)
    → assigning_leaves g.request.attributes.handle a turned ≡ after_reply (assigning_rest g.request.attributes.handle a) moment said
    → assigns_leaves g left (Assigns spot a) turned ≡ after_reply (assigns_part g spot a) moment said
hears_assign g left spot a turned moment said is =
    ap (λ (w : PartAssigned). part_then w (after_assigned g spot.scan spot.place)) is
    ∙ sym (heard_bound (assigning_rest g.request.attributes.handle a) (onward (after_assigned g spot.scan spot.place)) moment said
    (assigning_asks g.request.attributes.handle a))

pub may_hear_assign : (g : Going) (spot : Spot) (a : Assigning) (said : Said)
    → MayHear (assigns_part g spot a) said → MayHear (assigning_rest g.request.attributes.handle a) said
may_hear_assign g spot a said may =
    may_hear_bound (assigning_rest g.request.attributes.handle a) (onward (after_assigned g spot.scan spot.place)) said
    (assigning_asks g.request.attributes.handle a) may

pub assign_on : (g : Going) (left : Left) (spot : Spot) (a new : Assigning) (turned : AssigningTurned)
    → ((id : List ℕ) → assigning_rest id new ≡ assigning_leaves id a turned)
    → serving_at g left (Assigns spot new) ≡ assigns_leaves g left (Assigns spot a) turned
assign_on g left spot a new turned is =
    ap (λ (w : PartAssigned). part_then w (after_assigned g spot.scan spot.place)) (is g.request.attributes.handle)

-- ---- no other step has them

pub other_scan : (g : Going) (left : Left) (step : Step) (learned : Learned) → ((scanning : _) → step ≡ Scans scanning → ⊥)
    → scans_leaves g left step learned ≡ serving_at g left step
other_scan g left (Scans scanning) learned none = absurd (none scanning refl)
other_scan g left (Claims claim) learned none = refl
other_scan g left (Assigns spot a) learned none = refl

pub other_claim : (g : Going) (left : Left) (step : Step) (turned : ClaimTurned) → ((claim : ClaimProc) → step ≡ Claims claim → ⊥)
    → claims_leaves g left step turned ≡ serving_at g left step
other_claim g left (Scans scanning) turned none = refl
other_claim g left (Claims claim) turned none = absurd (none claim refl)
other_claim g left (Assigns spot a) turned none = refl

pub other_assign : (g : Going) (left : Left) (step : Step) (turned : AssigningTurned)
    → ((spot : Spot) → (a : Assigning) → step ≡ Assigns spot a → ⊥)
    → assigns_leaves g left step turned ≡ serving_at g left step
other_assign g left (Scans scanning) turned none = refl
other_assign g left (Claims claim) turned none = refl
other_assign g left (Assigns spot a) turned none = absurd (none spot a refl)

-- ---- an address is assigned

written_at : (g : Going) (scan : Scan) (place : PlaceValue) (target : Target) (left : Left) (done : Option Assigned)
    → place ≡ record { cidr = target.block.cidr; address = ordinal_address target.block.cidr target.ordinal }
    → after_assigned g scan place left done ≡ model.after_assign (round_at g scan) target left done
written_at g scan place target left (Some done) same = ap (λ (p : PlaceValue). went left (served.Gave (gift_at scan p done))) same
written_at g scan place target left None same = refl

pub takes_at : (g : Going) (left : Left) (scan : Scan) (target : Target) (spot : Spot) (a : Assigning)
    → spot.scan ≡ scan
    → spot.place ≡ record { cidr = target.block.cidr; address = ordinal_address target.block.cidr target.ordinal }
    → assigning_rest g.request.attributes.handle a ≡ assign g.request.attributes target left
    → assigns_part g spot a ≡ take_in (round_at g scan) left target
takes_at g left scan target spot a same at is =
    ap (λ (w : PartAssigned). part_then w (after_assigned g spot.scan spot.place)) is
    ∙ ap (λ s. part_then (assign g.request.attributes target left) (after_assigned g s spot.place)) same
    ∙ (λ i. part_then (assign g.request.attributes target left) (λ now done. written_at g scan spot.place target now done at i))

-- ---- the first round, and each that follows

rounds_begin : (request : AddRequest) (family : Family) (more : ℕ) (left : Left)
    → serving_at (record { request = request; family = family; more = more }) left anew ≡ rounds (round_of request family) more left
rounds_begin request family more left = sym (rounds_once (round_of request family) more left)

begun_with : (request : AddRequest) (s : Serving) (family : Family) (more : ℕ) (left : Left)
    → s.family ≡ family → s.rounds.more ≡ more → s.left ≡ left → s.step ≡ anew
    → serving_rest request s ≡ rounds (round_of request family) more left
begun_with request s family more left same_family same_more same_left same_step =
    ap (λ step. serving_at (going request s) s.left step) same_step
    ∙ ap (λ l. serving_at (going request s) l anew) same_left
    ∙ ap (λ n. serving_at (record { request = request; family = s.family; more = n }) left anew) same_more
    ∙ ap (λ f. serving_at (record { request = request; family = f; more = more }) left anew) same_family
    ∙ rounds_begin request family more left

pub begins : (request : AddRequest) (s : Serving) (family : Family) (left : Left)
    → s.family ≡ family → s.rounds.more ≡ left.races + left.claims → s.left ≡ left → s.step ≡ anew
    → serving_rest request s ≡ serve request family left
begins request s family left same_family same_more same_left same_step =
    begun_with request s family (left.races + left.claims) left same_family same_more same_left same_step

abbrev more_in : Option Rounds → ℕ
more_in (Some rounds) = rounds.more
more_in None = 0

next_is : (request : AddRequest) (family : Family) (more : ℕ) (fewer : Rounds) (now : Left) → fewer_than more ≡ Some fewer
    → rounds (round_of request family) fewer.more now ≡ next_of (round_of request family) more now
next_is request family zero fewer now is = absurd (cc is)
next_is request family (suc more) fewer now is = ap (λ n. rounds (round_of request family) n now) (sym (ap more_in is))

pub round_begins : (request : AddRequest) (old new : Serving) (fewer : Rounds) (now : Left) → fewer_than old.rounds.more ≡ Some fewer
    → new.family ≡ old.family → new.rounds ≡ fewer → new.left ≡ now → new.step ≡ anew
    → serving_rest request new ≡ next_for (going request old) now
round_begins request old new fewer now is same_family same_rounds same_left same_step =
    begun_with request new old.family fewer.more now same_family (ap (λ (r : Rounds). r.more) same_rounds) same_left same_step
    ∙ next_is request old.family old.rounds.more fewer now is

pub next_asks : (request : AddRequest) (old : Serving) (fewer : Rounds) (now : Left) → fewer_than old.rounds.more ≡ Some fewer
    → None ≡ answer_in (next_for (going request old) now)
next_asks request old fewer now is =
    step_goes_on (record { request = request; family = old.family; more = fewer.more }) now anew
    ∙ ap answer_in (rounds_begin request old.family fewer.more now ∙ next_is request old.family old.rounds.more fewer now is)

pub none_left : (request : AddRequest) (old : Serving) (now : Left) → fewer_than old.rounds.more ≡ None
    → Some (Stops now OutOfTries) ≡ answer_in (next_for (going request old) now)
none_left request old now is = by old.rounds.more is
  where
    by : (more : ℕ) → fewer_than more ≡ None → Some (Stops now OutOfTries) ≡ answer_in (next_of (round_of request old.family) more now)
    by zero e = refl
    by (suc more) e = absurd (cc e)

-- a claim has a call to make
pub claim_goes_on : (claim : ClaimProc) → IsSome (next_call (claim_rest claim))
claim_goes_on claim = claim_asks claim
