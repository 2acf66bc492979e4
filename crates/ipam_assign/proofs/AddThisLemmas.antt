-- What is left of an ADD of one address, round by round.
use Rattle.std.proofs.Common.{◌≡◌, refl, sym, ap, subst, ◌-◌, ◌∙◌, ℕ, zero, suc, List, Option, Some, None, IsSome}
use Rattle.ipam_addr.specs.Shape.{AddrValue}
use Rattle.ipam_pool.specs.declared.pools.Pool.{Pool}
use Rattle.ipam_records.specs.Hearing.{MayHear}
use Rattle.ipam_records.specs.Said.{Said}
use Rattle.ipam_records.specs.Word.{Word, Ends, Asks, Waits, next_call, after_reply, answer_in, bound}
use Rattle.ipam_parts.specs.Claim.{claim_at, claim_rest, claim_leaves}
use Rattle.ipam_parts.specs.declared.claim.ClaimTurned.{ClaimTurned}
use Rattle.ipam_model.specs.declared.outcome.ClaimAnswer.{ClaimAnswer}
use Rattle.ipam_assign.specs.declared.assigning.AssigningTurned.{AssigningTurned}
use Rattle.ipam_parts.specs.declared.claim.ClaimProc.{ClaimProc}
use Rattle.ipam_parts.specs.declared.claim.Stage.{Stage as ClaimStage}
use Rattle.ipam_parts.specs.declared.claim.Stage.TheVariants as claim
use Rattle.ipam_parts.specs.declared.claim.Writing.TheVariants as writing
use Rattle.ipam_model.specs.declared.part.Left.{Left}
use Rattle.ipam_model.specs.declared.request.AddRequest.{AddRequest}
use Rattle.ipam_model.specs.Affinities.{claim as claim_word}
use Rattle.ipam_model.specs.AddThis.{this_round, this_in_pool, this_assigned, this_take, add_this_word}
use Rattle.ipam_model.specs.Assigning.{after_claim, assign, target_in}
use Rattle.ipam_model.specs.Step.{Part, part_then, onward, all_left}
use Rattle.ipam_assign.specs.declared.add_this.AddThisProc.{AddThisProc}
use Rattle.ipam_assign.specs.declared.add_this.Looked.{Looked}
use Rattle.ipam_assign.specs.declared.add_this.Ruled.{Ruled}
use Rattle.ipam_assign.specs.declared.add_this.Stage.{Stage}
use Rattle.ipam_assign.specs.declared.add_this.Stage.TheVariants.{ReadsConfig, ReadsPools, ReadsBlock, Claims, Assigns}
use Rattle.ipam_assign.specs.declared.rounds.Rounds.{Rounds}
use Rattle.ipam_block.specs.Shape.{BlockValue}
use Rattle.ipam_parts.specs.Lowering.{lowering_rest}
use Rattle.ipam_parts.specs.Raising.{raising_rest}
use Rattle.ipam_parts.proofs.BoundLaws.{asked_bound, heard_bound, may_hear_bound}
use Rattle.ipam_parts.proofs.FreeingLemmas.{lowering_asks}
use Rattle.ipam_assign.specs.declared.assigning.Assigning.{Assigning}
use Rattle.ipam_assign.specs.declared.assigning.Stage.{Stage as AssignStage}
use Rattle.ipam_assign.specs.declared.assigning.Stage.TheVariants as assign
use Rattle.ipam_assign.specs.Assigning.{PartAssigned, assigning_at, assigning_leaves, assigning_rest, nothing, write_after}
use Rattle.ipam_assign.proofs.AssigningLemmas.{raising_asks}
use Rattle.ipam_assign.specs.AddThis.{this_then_next, looked_in, looked_of, claims_leaves, assigns_leaves, ThisGoing, this_next, wanted_at, rules_of, block_part, this_claims_part, this_assigns_part, this_going, this_part, this_rest, this_at}
use Rattle.ipam_assign.specs.PlaceShape.{PlaceValue}
use Rattle.ipam_assign.specs.Rounds.{fewer_than, next_of}
use Rattle.ipam_assign.specs.Usable.{place_of_pool}
use Rattle.ipam_assign.proofs.RoundLaws.{rounds_once}

going_of : AddRequest → AddrValue → ℕ → ThisGoing
going_of request address more = record { request = request; address = address; more = more }

abbrev more_in : Option Rounds → ℕ
more_in (Some rounds) = rounds.more
more_in None = 0

begin_at : (request : AddRequest) (address : AddrValue) (more fewer : ℕ) (now : Left) → Some (record { more = fewer }) ≡ fewer_than more
    → this_at (this_round (wanted_at request address) (next_of (this_round (wanted_at request address)) fewer) now)
    ≡ this_at (next_of (this_round (wanted_at request address)) more now)
begin_at request address zero fewer now is = absurd (cc is)
begin_at request address (suc more) fewer now is =
    ap (λ n. this_at (this_round (wanted_at request address) (next_of (this_round (wanted_at request address)) n) now)) (ap more_in is)
    ∙ sym (ap this_at (rounds_once (this_round (wanted_at request address)) more now))

-- the round that follows, where one does
pub next_begins : (request : AddRequest) (address : AddrValue) (more fewer : ℕ) (now : Left)
    → fewer_than more ≡ Some (record { more = fewer })
    → this_at (this_round (wanted_at request address) (next_of (this_round (wanted_at request address)) fewer) now)
    ≡ this_at (next_of (this_round (wanted_at request address)) more now)
next_begins request address more fewer now is = begin_at request address more fewer now (sym is)

pub next_asks : (request : AddRequest) (address : AddrValue) (more fewer : ℕ) (now : Left)
    → fewer_than more ≡ Some (record { more = fewer })
    → None ≡ answer_in (this_at (next_of (this_round (wanted_at request address)) more now))
next_asks request address more fewer now is = ap answer_in (next_begins request address more fewer now is)

-- the first round
pub begins : (request : AddRequest) (address : AddrValue)
    → this_at (this_round (wanted_at request address) (next_of (this_round (wanted_at request address)) 126) all_left)
    ≡ add_this_word request address
begins request address = sym (ap this_at (rounds_once (this_round (wanted_at request address)) 126 all_left))

claim_asks_at : (stage : ClaimStage) (p : ClaimProc) → IsSome (next_call (claim_at p.node p.cidr p.read stage))
unfolding claim_word
claim_asks_at claim.Looks p = refl
claim_asks_at (claim.Writes writing.Creates) p = refl
claim_asks_at (claim.Writes (writing.TakesBack revision)) p = refl
claim_asks_at (claim.Writes (writing.Claims kept)) p = refl
claim_asks_at (claim.Writes (writing.Confirms kept)) p = refl

-- a claim has a call to make
pub claim_asks : (p : ClaimProc) → IsSome (next_call (claim_rest p))
claim_asks p = claim_asks_at p.stage p

-- the pool that holds the address has its slot, whose block is read
pub pools_lead : (g : ThisGoing) (left : Left) (ruled : Ruled) (pool : Option Pool)
    → place_of_pool g.address pool ≡ Some ruled.place
    → this_at (block_part g left ruled)
    ≡ this_at (this_in_pool (wanted_at g.request g.address) (this_next g) left (rules_of ruled.rules) pool)
pools_lead g left ruled None is = absurd (cc is)
pools_lead g left ruled (Some pool) is = ap (λ place. this_at (block_part g left (record { rules = ruled.rules; place = place }))) (sym (ap place_or is))
  where
    place_or : Option PlaceValue → PlaceValue
    place_or (Some place) = place
    place_or None = ruled.place

-- ---- each stage has a call to make

pub asks_on : {A B : Type 0} (word : Word A) (follows : A → Word B) → IsSome (next_call word) → IsSome (next_call (bound word follows))
asks_on word follows some = subst (λ call. IsSome call) (sym (asked_bound word follows some)) some

pub asks_open : {A : Type 0} (word : Word A) → IsSome (next_call word) → None ≡ answer_in word
asks_open (Ends answer) some = absurd (cc some)
asks_open (Asks label call next) some = refl
asks_open (Waits next) some = absurd (cc some)

assigning_asks_at : (id : List ℕ) (b : BlockValue) (revision : ℕ) (stage : AssignStage) → IsSome (next_call (assigning_at id b revision stage))
assigning_asks_at id b revision (assign.Raises raising) =
    asks_on (raising_rest id raising) (onward (write_after id b revision)) (raising_asks id raising)
assigning_asks_at id b revision (assign.Writes left) = refl
assigning_asks_at id b revision (assign.Lowers lowering) =
    asks_on (lowering_rest id lowering) (onward nothing) (lowering_asks id lowering)

pub assigning_asks : (id : List ℕ) (a : Assigning) → IsSome (next_call (assigning_rest id a))
assigning_asks id a = assigning_asks_at id a.block a.revision a.stage

part_asks : (g : ThisGoing) (left : Left) (stage : Stage) → IsSome (next_call (this_part g left stage))
part_asks g left ReadsConfig = refl
part_asks g left (ReadsPools configured) = refl
part_asks g left (ReadsBlock ruled) = refl
part_asks g left (Claims claim) =
    asks_on (bound (claim_rest claim) (after_claim left)) (onward (this_then_next g))
    (asks_on (claim_rest claim) (after_claim left) (claim_asks claim))
part_asks g left (Assigns looked assigning) =
    asks_on (assigning_rest g.request.attributes.handle assigning)
    (onward (this_assigned (wanted_at g.request looked.address) (this_next g) (looked_of looked)))
    (assigning_asks g.request.attributes.handle assigning)

pub stage_asks : (g : ThisGoing) (left : Left) (stage : Stage) → IsSome (next_call (this_at (this_part g left stage)))
stage_asks g left stage = asks_on (this_part g left stage) _ (part_asks g left stage)

pub stage_goes_on : (g : ThisGoing) (left : Left) (stage : Stage) → None ≡ answer_in (this_at (this_part g left stage))
stage_goes_on g left stage = asks_open (this_at (this_part g left stage)) (stage_asks g left stage)

-- ---- while a claim or an assignment goes on

pub asks_claim : (g : ThisGoing) (left : Left) (claim : ClaimProc)
    → next_call (this_at (this_claims_part g left claim)) ≡ next_call (claim_rest claim)
asks_claim g left claim =
    asked_bound (this_claims_part g left claim) _ (part_asks g left (Claims claim))
    ∙ asked_bound (bound (claim_rest claim) (after_claim left)) (onward (this_then_next g)) (asks_on (claim_rest claim) (after_claim left) (claim_asks claim))
    ∙ asked_bound (claim_rest claim) (after_claim left) (claim_asks claim)

pub hears_claim : (g : ThisGoing) (left : Left) (claim : ClaimProc) (moment : ℕ) (said : Said)
    → after_reply (this_at (this_claims_part g left claim)) moment said
    ≡ this_at (part_then (bound (after_reply (claim_rest claim) moment said) (after_claim left)) (this_then_next g))
hears_claim g left claim moment said =
    heard_bound (this_claims_part g left claim) _ moment said (part_asks g left (Claims claim))
    ∙ ap this_at
    (heard_bound (bound (claim_rest claim) (after_claim left)) (onward (this_then_next g)) moment said
    (asks_on (claim_rest claim) (after_claim left) (claim_asks claim))
    ∙ ap (λ (w : Part (Unit {0})). part_then w (this_then_next g))
    (heard_bound (claim_rest claim) (after_claim left) moment said (claim_asks claim)))

pub may_hear_claim : (g : ThisGoing) (left : Left) (claim : ClaimProc) (said : Said)
    → MayHear (this_at (this_claims_part g left claim)) said → MayHear (claim_rest claim) said
may_hear_claim g left claim said may =
    may_hear_bound (claim_rest claim) (after_claim left) said (claim_asks claim)
    (may_hear_bound (bound (claim_rest claim) (after_claim left)) (onward (this_then_next g)) said
    (asks_on (claim_rest claim) (after_claim left) (claim_asks claim))
    (may_hear_bound (this_claims_part g left claim) _ said (part_asks g left (Claims claim)) may))

pub asks_assign : (g : ThisGoing) (left : Left) (looked : Looked) (a : Assigning)
    → next_call (this_at (this_assigns_part g looked a)) ≡ next_call (assigning_rest g.request.attributes.handle a)
asks_assign g left looked a =
    asked_bound (this_assigns_part g looked a) _ (part_asks g left (Assigns looked a))
    ∙ asked_bound (assigning_rest g.request.attributes.handle a) _ (assigning_asks g.request.attributes.handle a)

pub hears_assign : (g : ThisGoing) (left : Left) (looked : Looked) (a : Assigning) (moment : ℕ) (said : Said)
    → after_reply (this_at (this_assigns_part g looked a)) moment said
    ≡ this_at (part_then (after_reply (assigning_rest g.request.attributes.handle a) moment said)
    (this_assigned (wanted_at g.request looked.address) (this_next g) (looked_of looked)))
hears_assign g left looked a moment said =
    heard_bound (this_assigns_part g looked a) _ moment said (part_asks g left (Assigns looked a))
    ∙ ap this_at (heard_bound (assigning_rest g.request.attributes.handle a) _ moment said (assigning_asks g.request.attributes.handle a))

pub may_hear_assign : (g : ThisGoing) (left : Left) (looked : Looked) (a : Assigning) (said : Said)
    → MayHear (this_at (this_assigns_part g looked a)) said → MayHear (assigning_rest g.request.attributes.handle a) said
may_hear_assign g left looked a said may =
    may_hear_bound (assigning_rest g.request.attributes.handle a) _ said (assigning_asks g.request.attributes.handle a)
    (may_hear_bound (this_assigns_part g looked a) _ said (part_asks g left (Assigns looked a)) may)

pub claim_took : (g : ThisGoing) (left : Left) (claim : ClaimProc) (turned : ClaimTurned) (moment : ℕ) (said : Said)
    → claim_leaves claim turned ≡ after_reply (claim_rest claim) moment said
    → this_at (claims_leaves g left (Claims claim) turned) ≡ after_reply (this_at (this_claims_part g left claim)) moment said
claim_took g left claim turned moment said is =
    ap (λ (w : Word ClaimAnswer). this_at (part_then (bound w (after_claim left)) (this_then_next g))) is
    ∙ sym (hears_claim g left claim moment said)

pub assign_took : (g : ThisGoing) (left : Left) (looked : Looked) (a : Assigning) (turned : AssigningTurned) (moment : ℕ) (said : Said)
    → assigning_leaves g.request.attributes.handle a turned ≡ after_reply (assigning_rest g.request.attributes.handle a) moment said
    → this_at (assigns_leaves g left (Assigns looked a) turned) ≡ after_reply (this_at (this_assigns_part g looked a)) moment said
assign_took g left looked a turned moment said is =
    ap (λ (w : PartAssigned). this_at (part_then w (this_assigned (wanted_at g.request looked.address) (this_next g) (looked_of looked)))) is
    ∙ sym (hears_assign g left looked a moment said)

pub assign_on : (g : ThisGoing) (left : Left) (looked : Looked) (a new : Assigning) (turned : AssigningTurned)
    → ((id : List ℕ) → assigning_rest id new ≡ assigning_leaves id a turned)
    → this_part g left (Assigns looked new) ≡ assigns_leaves g left (Assigns looked a) turned
assign_on g left looked a new turned is =
    ap (λ (w : PartAssigned). part_then w (this_assigned (wanted_at g.request looked.address) (this_next g) (looked_of looked)))
    (is g.request.attributes.handle)

pub takes_at : (g : ThisGoing) (left : Left) (ruled : Ruled) (moment revision : ℕ) (b : BlockValue) (looked : Looked) (a : Assigning)
    → looked_of looked ≡ looked_in ruled moment → looked.address ≡ ruled.place.address
    → assigning_rest g.request.attributes.handle a
    ≡ assign g.request.attributes (target_in (revision, b) (ruled.place.address.number - ruled.place.cidr.base)) left
    → this_at (this_assigns_part g looked a)
    ≡ this_at (this_take (wanted_at g.request ruled.place.address) (this_next g) left (looked_in ruled moment) (revision, b))
takes_at g left ruled moment revision b looked a same at is =
    ap (λ l. this_at (part_then (assigning_rest g.request.attributes.handle a) (this_assigned (wanted_at g.request looked.address) (this_next g) l))) same
    ∙ ap (λ address. this_at (part_then (assigning_rest g.request.attributes.handle a) (this_assigned (wanted_at g.request address) (this_next g) (looked_in ruled moment)))) at
    ∙ ap (λ (w : PartAssigned). this_at (part_then w (this_assigned (wanted_at g.request ruled.place.address) (this_next g) (looked_in ruled moment)))) is

-- no other stage has an assignment
pub other_stage : (g : ThisGoing) (left : Left) (stage : Stage) (turned : AssigningTurned)
    → ((looked : Looked) → (a : Assigning) → stage ≡ Assigns looked a → ⊥)
    → assigns_leaves g left stage turned ≡ this_part g left stage
other_stage g left ReadsConfig turned none = refl
other_stage g left (ReadsPools configured) turned none = refl
other_stage g left (ReadsBlock ruled) turned none = refl
other_stage g left (Claims claim) turned none = refl
other_stage g left (Assigns looked a) turned none = absurd (none looked a refl)

-- ---- the beginning of the request and of each round

begun_with : (p : AddThisProc) (request : AddRequest) (address : AddrValue) (more : ℕ) (left : Left)
    → p.request ≡ request → p.address ≡ address → p.rounds.more ≡ more → p.left ≡ left → p.stage ≡ ReadsConfig
    → this_rest p ≡ this_at (this_round (wanted_at request address) (next_of (this_round (wanted_at request address)) more) left)
begun_with p request address more left same_request same_address same_more same_left same_stage =
    ap (λ stage. this_at (this_part (this_going p) p.left stage)) same_stage
    ∙ ap (λ l. this_at (this_part (this_going p) l ReadsConfig)) same_left
    ∙ ap (λ n. this_at (this_part (record { request = p.request; address = p.address; more = n }) left ReadsConfig)) same_more
    ∙ ap (λ a. this_at (this_part (record { request = p.request; address = a; more = more }) left ReadsConfig)) same_address
    ∙ ap (λ r. this_at (this_part (record { request = r; address = address; more = more }) left ReadsConfig)) same_request

pub new_begins : (p : AddThisProc) (request : AddRequest) (address : AddrValue)
    → p.request ≡ request → p.address ≡ address → p.rounds.more ≡ 126 → p.left ≡ all_left → p.stage ≡ ReadsConfig
    → this_rest p ≡ add_this_word request address
new_begins p request address same_request same_address same_more same_left same_stage =
    begun_with p request address 126 all_left same_request same_address same_more same_left same_stage
    ∙ begins request address

pub round_begins : (old new : AddThisProc) (rounds : Rounds) (now : Left) → fewer_than old.rounds.more ≡ Some rounds
    → new.request ≡ old.request → new.address ≡ old.address → new.rounds ≡ rounds → new.left ≡ now → new.stage ≡ ReadsConfig
    → this_rest new ≡ this_at (this_next (this_going old) now)
round_begins old new rounds now fewer same_request same_address same_rounds same_left same_stage =
    begun_with new old.request old.address rounds.more now same_request same_address (ap (λ (r : Rounds). r.more) same_rounds) same_left same_stage
    ∙ next_begins old.request old.address old.rounds.more rounds.more now fewer
