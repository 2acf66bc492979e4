-- What an ADD without an address leaves, by the trail that led there: each of its calls is calm, or it
-- assigned an address that is still given, or that was freed after it.
use Rattle.std.proofs.Common.{◌≡◌, ℕ, zero, suc, ◌+◌, ◌-◌, inl, inr, List, [], ◌∷◌, ◌++◌, Option, Some, None, refl, sym, subst, arith}
use Rattle.std.specs.Prelude.{Contains}
use Rattle.std.proofs.lemmas.List.Elements.{Contains-append_left, Contains-append_right}
use Rattle.ipam_addr.specs.declared.address.Family.{Family}
use Rattle.ipam_addr.specs.Shape.{CidrValue}
use Rattle.ipam_block.specs.Shape as block
use Rattle.ipam_records.specs.declared.call.Call.{Call}
use Rattle.ipam_records.specs.declared.call.Call.TheVariants.{Get, List as ListAll}
use Rattle.ipam_records.specs.declared.key.Key.TheVariants as key
use Rattle.ipam_records.specs.declared.key.Kind.TheVariants as kind
use Rattle.ipam_records.specs.Datastore.{Datastore, reply_of}
use Rattle.ipam_records.specs.Said.{Can}
use Rattle.ipam_records.specs.Word.{Ends}
use Rattle.ipam_model.specs.declared.answer.Answer.{Answer}
use Rattle.ipam_model.specs.declared.answer.Answer.TheVariants as answer
use Rattle.ipam_model.specs.declared.answer.Scan.{Scan}
use Rattle.ipam_model.specs.declared.outcome.AddAnswer.{AddAnswer}
use Rattle.ipam_model.specs.declared.outcome.AddAnswer.TheVariants as add
use Rattle.ipam_model.specs.declared.outcome.Gift.{Gift}
use Rattle.ipam_model.specs.declared.outcome.Served.{Served}
use Rattle.ipam_model.specs.declared.outcome.Served.TheVariants.{Gave, Refused}
use Rattle.ipam_model.specs.declared.part.Assigned.{Assigned}
use Rattle.ipam_model.specs.declared.part.Left.{Left}
use Rattle.ipam_model.specs.declared.part.Outcome.{Outcome}
use Rattle.ipam_model.specs.declared.part.Outcome.TheVariants.{Went, Stops}
use Rattle.ipam_model.specs.declared.part.Stop.{Stop}
use Rattle.ipam_model.specs.declared.part.Stop.TheVariants.{OutOfTries, OutOfClaims, NoRoom, CountAtLimit, NoRevisions}
use Rattle.ipam_model.specs.declared.request.AddRequest.{AddRequest}
use Rattle.ipam_model.specs.Add.{NextRound, Round, add_each, add_stops, add_word, after_assign, after_family, after_stop, asked_of, claim_in, follow_pick, follow_rank, free_gift, gift_of, refuse, round_of, serve, take_in}
use Rattle.ipam_model.specs.Affinities.{BlockRead}
use Rattle.ipam_model.specs.Assigning.{Target, assign, claim_for, target_in}
use Rattle.ipam_model.specs.Choice.{Foreign, Lacks, Own, Pick, Picks, Rank, Seen, Unclaimed, Unconfirmed, Unknown, block_at, pick_of}
use Rattle.ipam_model.specs.Counting.{FreedOfHandle, freeing_one}
use Rattle.ipam_model.specs.Requests.{told_as}
use Rattle.ipam_model.specs.Step.{all_left, answer_of, onward, rounds, stops}
use Rattle.ipam_model.specs.Told.{of_add}
use Rattle.ipam_model.specs.Usable.{families_if}
use Rattle.ipam_laws.proofs.SeenReads.{seen_by_stores}
use Rattle.ipam_laws.proofs.ActParts.{IsCurrent, assigning_call}
use Rattle.ipam_laws.proofs.Acts.{Later, Same as Since-same, Since, since-step}
use Rattle.ipam_laws.proofs.AddFamilies.{KnownAt, listed-known}
use Rattle.ipam_laws.proofs.AddParts.{AssignEnds, AssignsLast, GoesQuietly, KnowsRead, assign-comes, claim-for}
use Rattle.ipam_laws.proofs.AddRounds.{HasRead, picked-read}
use Rattle.ipam_laws.proofs.AddTrails.{Calm, More, NoBlock, Quietly, Same}
use Rattle.ipam_laws.proofs.FreeTrails.{Calmer, FreedEnds, IsRaceOrSpent, Rid, Still, Then, calmer-since, free-rids, rid-origin, rid-since}
use Rattle.ipam_laws.proofs.Members.{in-cons, in-here}
use Rattle.ipam_laws.proofs.Trails.{Comes, Comes-bound, Did, Got, Trail}

-- ---- what was given

abbrev pub freeing_gift : AddRequest → Gift → FreedOfHandle
freeing_gift request gift = freeing_one request.attributes.handle gift.block (gift.given.address.number - gift.block.base) gift.stamp

-- the call assigned the gift
pub record IsGiftOf (request : AddRequest) (gift : Gift) (store : Datastore) (asked : Call) : Type 0 where
  pub target : Target
  pub is : asked ≡ assigning_call request.attributes target
  pub revision : ℕ
  pub granted : reply_of store (assigning_call request.attributes target) ≡ Can revision
  pub current : IsCurrent store target.revision target.block
  pub block : gift.block ≡ target.block.cidr
  pub ordinal : gift.given.address.number - gift.block.base ≡ target.ordinal
  pub stamp : gift.stamp ≡ target.block.sequence + 1

-- what the call gave was freed after it
pub record IsFreedBehind (request : AddRequest) (whole : Trail) (moment : ℕ) (store : Datastore) (asked : Call) (before : Trail) : Type 0 where
  pub gift : Gift
  pub given : IsGiftOf request gift store asked
  pub amount : ℕ
  pub rid : Rid (freeing_gift request gift) (Did moment store asked ∷ before) amount whole

-- the call is calm, or what it gave was freed after it, or is one of these
pub data StepLeaves (request : AddRequest) (gifts : List Gift) (whole : Trail) (moment : ℕ) (store : Datastore) (asked : Call) (before : Trail) : Type 0 where
  IsCalm : Calm store asked → StepLeaves request gifts whole moment store asked before
  IsFreed : IsFreedBehind request whole moment store asked before → StepLeaves request gifts whole moment store asked before
  IsGiven : (gift : Gift) → Contains gifts gift → IsGiftOf request gift store asked → StepLeaves request gifts whole moment store asked before

-- so is each call of the trail, as the whole trail has it
unfoldable pub Leaves : AddRequest → List Gift → (whole : Trail) → Trail → Type 0
Leaves request gifts whole [] = Unit {0}
Leaves request gifts whole (Did moment store asked ∷ trail) = StepLeaves request gifts whole moment store asked trail × Leaves request gifts whole trail
Leaves request gifts whole (Got moment at live ∷ trail) = ⊥

whole-later : (request : AddRequest) (gifts : List Gift) (whole longer trail : Trail) → Since whole longer → Leaves request gifts whole trail → Leaves request gifts longer trail
unfolding Leaves
whole-later request gifts whole longer [] since h = tt
whole-later request gifts whole longer (Did moment store asked ∷ trail) since h = (by h.0, whole-later request gifts whole longer trail since h.1)
  where
    by : StepLeaves request gifts whole moment store asked trail → StepLeaves request gifts longer moment store asked trail
    by (IsCalm calm) = IsCalm calm
    by (IsFreed freed) = IsFreed (record {
      gift = freed.gift;
      given = freed.given;
      amount = freed.amount;
      rid = rid-since (freeing_gift request freed.gift) (Did moment store asked ∷ trail) freed.amount whole longer since freed.rid;
    })
    by (IsGiven gift among given) = IsGiven gift among given
whole-later request gifts whole longer (Got moment at live ∷ trail) since h = h

calm-leaves : (request : AddRequest) (gifts : List Gift) (whole trail longer : Trail) → Calmer trail longer → Leaves request gifts whole trail → Leaves request gifts whole longer
unfolding Leaves
calm-leaves request gifts whole trail longer Still h = h
calm-leaves request gifts whole trail longer (Then moment store asked rest calm before) h = (IsCalm calm, calm-leaves request gifts whole trail rest before h)

-- what comes calmly leaves it so
still-leaves : (request : AddRequest) (gifts : List Gift) (trail longer : Trail) → Calmer trail longer → Leaves request gifts trail trail → Leaves request gifts longer longer
still-leaves request gifts trail longer calm h = calm-leaves request gifts longer trail longer calm (whole-later request gifts trail longer trail (calmer-since trail longer calm) h)

-- one gift more
more-leaves : (request : AddRequest) (gifts : List Gift) (gift : Gift) (whole trail : Trail) → Leaves request gifts whole trail → Leaves request (gifts ++ gift ∷ []) whole trail
unfolding Leaves
more-leaves request gifts gift whole [] h = tt
more-leaves request gifts gift whole (Did moment store asked ∷ trail) h = (by h.0, more-leaves request gifts gift whole trail h.1)
  where
    by : StepLeaves request gifts whole moment store asked trail → StepLeaves request (gifts ++ gift ∷ []) whole moment store asked trail
    by (IsCalm calm) = IsCalm calm
    by (IsFreed freed) = IsFreed freed
    by (IsGiven one among given) = IsGiven one (Contains-append_left gifts (gift ∷ []) one among) given
more-leaves request gifts gift whole (Got moment at live ∷ trail) h = h

-- one gift less: it was freed after the trail
freed-leaves : (request : AddRequest) (gift : Gift) (gifts : List Gift) (whole longer : Trail) (amount : ℕ) → Calmer whole longer → Rid (freeing_gift request gift) whole amount longer → (trail : Trail) → Since trail whole
    → Leaves request (gift ∷ gifts) whole trail → Leaves request gifts longer trail
unfolding Leaves
freed-leaves request gift gifts whole longer amount calm rid [] since h = tt
freed-leaves request gift gifts whole longer amount calm rid (Did moment store asked ∷ trail) since h =
    (by h.0, freed-leaves request gift gifts whole longer amount calm rid trail (since-step (Did moment store asked) trail whole since) h.1)
  where
    by : StepLeaves request (gift ∷ gifts) whole moment store asked trail → StepLeaves request gifts longer moment store asked trail
    by (IsCalm quiet) = IsCalm quiet
    by (IsFreed freed) = IsFreed (record {
      gift = freed.gift;
      given = freed.given;
      amount = freed.amount;
      rid = rid-since (freeing_gift request freed.gift) (Did moment store asked ∷ trail) freed.amount whole longer (calmer-since whole longer calm) freed.rid;
    })
    by (IsGiven one among given) = elim (in-cons one gift gifts among) [
      | inl same ↦ IsFreed (record {
        gift = gift;
        given = subst (λ (g : Gift). IsGiftOf request g store asked) (sym same) given;
        amount = amount;
        rid = rid-origin (freeing_gift request gift) (Did moment store asked ∷ trail) whole amount longer since rid;
      })
      | inr later ↦ IsGiven one later given
    ]
freed-leaves request gift gifts whole longer amount calm rid (Got moment at live ∷ trail) since h = h

quietly-calmer : (trail longer : Trail) → Quietly trail longer → Calmer trail longer
quietly-calmer trail longer Same = Still
quietly-calmer trail longer (More moment store asked rest quiet before) = Then moment store asked rest quiet.calm (quietly-calmer trail rest before)

-- ---- one family

unfoldable ServedLeaves : AddRequest → List Gift → Trail → Outcome Served → Type 0
ServedLeaves request gifts trail (Went left (Gave gift)) = Leaves request (gifts ++ gift ∷ []) trail trail
ServedLeaves request gifts trail (Went left (Refused told)) = Leaves request gifts trail trail
ServedLeaves request gifts trail (Stops left why) = Leaves request gifts trail trail

abbrev NextLeaves : AddRequest → List Gift → NextRound → Type 0
NextLeaves request gifts next = (left : Left) (trail : Trail) → Leaves request gifts trail trail → Comes (ServedLeaves request gifts) trail (next left)

gives : (request : AddRequest) (gifts : List Gift) (scan : Scan) (target : Target) (done : Assigned) (five trail : Trail) → Leaves request gifts five five → AssignsLast five request.attributes target done trail
    → Leaves request (gifts ++ gift_of scan target done ∷ []) trail trail
unfolding Leaves
gives request gifts scan target done five trail h last =
    let gift = gift_of scan target done in
    let step = Did done.moment last.store (assigning_call request.attributes target) in
    let until = still-leaves request gifts five last.between (quietly-calmer five last.between last.quiet) h in
    let before = whole-later request (gifts ++ gift ∷ []) last.between (step ∷ last.between) last.between (Later step last.between Since-same) (more-leaves request gifts gift last.between last.between until) in
    subst (λ (t : Trail). Leaves request (gifts ++ gift ∷ []) t t) (sym last.is) (
      IsGiven gift (Contains-append_right gifts (gift ∷ []) gift (in-here gift [])) (record {
        target = target;
        is = refl;
        revision = last.revision;
        granted = last.granted;
        current = last.current;
        block = refl;
        ordinal = omega arith;
        stamp = last.stamp;
      }),
      before,
    )

module _ (round : Round) (gifts : List Gift) (after : NextLeaves round.request gifts round.next) (left : Left) (five : Trail) (h : Leaves round.request gifts five five) where
  take-leaves : (found : ℕ × block.BlockValue) (ordinal : ℕ) → KnowsRead five (Some found) → Comes (ServedLeaves round.request gifts) five (take_in round left (target_in found ordinal))
  unfolding ServedLeaves AssignEnds
  take-leaves found ordinal knows =
      Comes-bound (AssignEnds five round.request.attributes (target_in found ordinal)) (ServedLeaves round.request gifts) (onward (after_assign round (target_in found ordinal))) (assign round.request.attributes (target_in found ordinal) left) five
      (assign-comes five round.request.attributes (target_in found ordinal) left knows) ends
    where
      quiet : (trail : Trail) → Quietly five trail → Leaves round.request gifts trail trail
      quiet trail k = still-leaves round.request gifts five trail (quietly-calmer five trail k) h

      ends : (trail : Trail) (outcome : Outcome (Option Assigned)) → AssignEnds five round.request.attributes (target_in found ordinal) trail outcome → Comes (ServedLeaves round.request gifts) trail (onward (after_assign round (target_in found ordinal)) outcome)
      ends trail (Went now (Some done)) k = gives round.request gifts round.scan (target_in found ordinal) done five trail h k.1
      ends trail (Went now None) k = after now trail (quiet trail k)
      ends trail (Stops now OutOfTries) k = quiet trail k
      ends trail (Stops now OutOfClaims) k = quiet trail k
      ends trail (Stops now NoRoom) k = quiet trail k
      ends trail (Stops now NoRevisions) k = quiet trail k
      ends trail (Stops now (CountAtLimit moment)) k =
          still-leaves round.request gifts five trail
          (subst (λ (t : Trail). Calmer five t) (sym k.is) (Then moment k.store (Get (key.Handle round.request.attributes.handle)) k.between (NoBlock (λ cidr e. cc e)) (quietly-calmer five k.between k.quiet))) h

  claim-leaves : (slot : CidrValue) (read : BlockRead) → KnowsRead five read → Comes (ServedLeaves round.request gifts) five (claim_in round left slot read)
  unfolding ServedLeaves GoesQuietly
  claim-leaves slot read knows =
      Comes-bound (GoesQuietly five) (ServedLeaves round.request gifts) (onward (λ now done. round.next now)) (claim_for round.request.node slot read left) five
      (claim-for five five round.request.node slot read left Same knows) ends
    where
      ends : (trail : Trail) (outcome : Outcome (Unit {0})) → GoesQuietly five trail outcome → Comes (ServedLeaves round.request gifts) trail (onward (λ now done. round.next now) outcome)
      ends trail (Went now done) k = after now trail (still-leaves round.request gifts five trail (quietly-calmer five trail k) h)
      ends trail (Stops now why) k = still-leaves round.request gifts five trail (quietly-calmer five trail k.1) h

  known-read : (slot : CidrValue) (read : BlockRead) → KnownAt five slot read → KnowsRead five read
  known-read slot None k = tt
  known-read slot (Some found) k = k.1

  rank-leaves : (slot : CidrValue) (rank : Rank) → HasRead (KnownAt five slot) rank → Comes (ServedLeaves round.request gifts) five (follow_rank round left slot rank)
  rank-leaves slot (Own found ordinal) known = take-leaves found ordinal (known-read slot (Some found) known)
  rank-leaves slot (Unconfirmed found) known = claim-leaves slot (Some found) (known-read slot (Some found) known)
  rank-leaves slot (Unclaimed read) known = claim-leaves slot read (known-read slot read known)
  rank-leaves slot (Foreign found ordinal) known = take-leaves found ordinal (known-read slot (Some found) known)

  follow-leaves : (seen : Seen) (pick : Pick) → pick_of (asked_of round.request round.scan.family) seen ≡ pick → ((slot : CidrValue) → KnownAt five slot (block_at seen slot)) → Comes (ServedLeaves round.request gifts) five (follow_pick round left pick)
  unfolding ServedLeaves
  follow-leaves seen (Picks ranked) picked knows =
      rank-leaves ranked.slot ranked.rank (picked-read (KnownAt five ranked.slot) (asked_of round.request round.scan.family) seen ranked picked (knows ranked.slot))
  follow-leaves seen Lacks picked knows = h
  follow-leaves seen (Unknown place) picked knows = h

round-leaves : (request : AddRequest) (family : Family) (gifts : List Gift) (next : NextRound) → NextLeaves request gifts next → NextLeaves request gifts (round_of request family next)
round-leaves request family gifts next after left trail h = λ c config a1 p pools a2 r reservations a3 f affinities a4 b blocks a5.
    let scan : Scan = record { family = family; c = c; p = p; r = r; f = f; b = b } in
    let seen : Seen = seen_by_stores config pools reservations affinities blocks in
    let four : Trail = Did f affinities (ListAll kind.Affinity) ∷ Did r reservations (Get key.Reservations) ∷ Did p pools (Get key.Pools) ∷ Did c config (Get key.Config) ∷ trail in
    let five : Trail = Did b blocks (ListAll kind.Block) ∷ four in
    let calm : Calmer trail five =
    Then b blocks (ListAll kind.Block) four (NoBlock (λ cidr e. cc e))
    (Then f affinities (ListAll kind.Affinity) (Did r reservations (Get key.Reservations) ∷ Did p pools (Get key.Pools) ∷ Did c config (Get key.Config) ∷ trail) (NoBlock (λ cidr e. cc e))
    (Then r reservations (Get key.Reservations) (Did p pools (Get key.Pools) ∷ Did c config (Get key.Config) ∷ trail) (NoBlock (λ cidr e. cc e))
    (Then p pools (Get key.Pools) (Did c config (Get key.Config) ∷ trail) (NoBlock (λ cidr e. cc e))
    (Then c config (Get key.Config) trail (NoBlock (λ cidr e. cc e)) Still)))) in
    follow-leaves (record { request = request; scan = scan; next = next }) gifts after left five (still-leaves request gifts trail five calm h) seen (pick_of (asked_of request family) seen) refl
    (λ slot. listed-known blocks four b slot (block_at seen slot) refl)

rounds-leave : (request : AddRequest) (family : Family) (gifts : List Gift) (more : ℕ) → NextLeaves request gifts (rounds (round_of request family) more)
unfolding rounds ServedLeaves
rounds-leave request family gifts zero = round-leaves request family gifts (λ now. stops now OutOfTries) (λ left trail h. h)
rounds-leave request family gifts (suc more) = round-leaves request family gifts (rounds (round_of request family) more) (rounds-leave request family gifts more)

-- ---- what is told

-- where it is told that there is no address, nothing that was given is left
unfoldable TellsBare : AddRequest → AddAnswer → Trail → Type 0
TellsBare request (add.Added given) trail = Unit {0}
TellsBare request (add.Exhausted scan) trail = Leaves request [] trail trail
TellsBare request (add.NoPool called moment) trail = Leaves request [] trail trail
TellsBare request (add.Again lost claims) trail = Unit {0}
TellsBare request add.Full trail = Leaves request [] trail trail
TellsBare request (add.CountFull moment) trail = Leaves request [] trail trail
TellsBare request add.Spent trail = Unit {0}

tells-bare : (request : AddRequest) (told : AddAnswer) (trail : Trail) → Leaves request [] trail trail → TellsBare request told trail
unfolding TellsBare
tells-bare request (add.Added given) trail h = tt
tells-bare request (add.Exhausted scan) trail h = h
tells-bare request (add.NoPool called moment) trail h = h
tells-bare request (add.Again lost claims) trail h = tt
tells-bare request add.Full trail h = h
tells-bare request (add.CountFull moment) trail h = h
tells-bare request add.Spent trail h = tt

unfoldable BareEnds : AddRequest → Trail → Outcome AddAnswer → Type 0
BareEnds request trail (Went left told) = TellsBare request told trail
BareEnds request trail (Stops left NoRoom) = Leaves request [] trail trail
BareEnds request trail (Stops left (CountAtLimit moment)) = Leaves request [] trail trail
BareEnds request trail (Stops left why) = Unit {0}

race-ends : (request : AddRequest) (trail : Trail) (left : Left) (why : Stop) → IsRaceOrSpent why → BareEnds request trail (Stops left why)
unfolding BareEnds IsRaceOrSpent
race-ends request trail left OutOfTries k = tt
race-ends request trail left OutOfClaims k = tt
race-ends request trail left NoRoom k = absurd k
race-ends request trail left (CountAtLimit moment) k = absurd k
race-ends request trail left NoRevisions k = tt

refuse-leaves : (request : AddRequest) (gifts : List Gift) (told : AddAnswer) (left : Left) (trail : Trail) → Leaves request gifts trail trail → Comes (BareEnds request) trail (refuse request gifts told left)
unfolding BareEnds FreedEnds
refuse-leaves request [] told left trail h = tells-bare request told trail h
refuse-leaves request (gift ∷ gifts) told left trail h =
    Comes-bound (FreedEnds (freeing_gift request gift) trail) (BareEnds request) (onward (λ now amount. refuse request gifts told now)) (free_gift request gift left) trail
    (free-rids (freeing_gift request gift) trail left) (ends (λ now longer k. refuse-leaves request gifts told now longer k))
  where
    ends : ((now : Left) (longer : Trail) → Leaves request gifts longer longer → Comes (BareEnds request) longer (refuse request gifts told now))
        → (longer : Trail) (outcome : Outcome ℕ) → FreedEnds (freeing_gift request gift) trail longer outcome → Comes (BareEnds request) longer (onward (λ now amount. refuse request gifts told now) outcome)
    ends rest longer (Went now amount) k =
        rest now longer (calm-leaves request gifts longer trail longer k.1 (freed-leaves request gift gifts trail longer amount k.1 k.0 trail Since-same h))
    ends rest longer (Stops now why) k = race-ends request longer now why k

stop-leaves : (request : AddRequest) (gifts : List Gift) (left : Left) (why : Stop) (trail : Trail) → Leaves request gifts trail trail → Comes (BareEnds request) trail (after_stop request gifts left why)
unfolding BareEnds
stop-leaves request gifts left OutOfTries trail h = tt
stop-leaves request gifts left OutOfClaims trail h = tt
stop-leaves request gifts left NoRoom trail h = refuse-leaves request gifts add.Full left trail h
stop-leaves request gifts left (CountAtLimit moment) trail h = refuse-leaves request gifts (add.CountFull moment) left trail h
stop-leaves request gifts left NoRevisions trail h = tt

each-leaves : (request : AddRequest) (families : List Family) (gifts : List Gift) (left : Left) (trail : Trail) → Leaves request gifts trail trail → Comes (BareEnds request) trail (add_each request gifts families left)
unfolding add_each BareEnds TellsBare ServedLeaves
each-leaves request [] gifts left trail h = tt
each-leaves request (family ∷ families) gifts left trail h =
    Comes-bound (ServedLeaves request gifts) (BareEnds request) (after_family request gifts (λ gift now. add_each request (gifts ++ gift ∷ []) families now)) (serve request family left) trail
    (rounds-leave request family gifts (left.races + left.claims) left trail h) (ends (λ gift now longer k. each-leaves request families (gifts ++ gift ∷ []) now longer k))
  where
    ends : ((gift : Gift) (now : Left) (longer : Trail) → Leaves request (gifts ++ gift ∷ []) longer longer → Comes (BareEnds request) longer (add_each request (gifts ++ gift ∷ []) families now))
        → (longer : Trail) (outcome : Outcome Served) → ServedLeaves request gifts longer outcome → Comes (BareEnds request) longer (after_family request gifts (λ gift now. add_each request (gifts ++ gift ∷ []) families now) outcome)
    ends rest longer (Went now (Gave gift)) k = rest gift now longer k
    ends rest longer (Went now (Refused told)) k = refuse-leaves request gifts told now longer k
    ends rest longer (Stops now why) k = stop-leaves request gifts now why longer k

-- what an ADD without an address may be told, and where nothing is left
unfoldable pub LeavesNothing : AddRequest → Answer → Trail → Type 0
LeavesNothing request (answer.Added given) trail = Unit {0}
LeavesNothing request (answer.Exhausted scan) trail = Leaves request [] trail trail
LeavesNothing request (answer.NoPool called moment) trail = Leaves request [] trail trail
LeavesNothing request (answer.Again lost claims) trail = Unit {0}
LeavesNothing request answer.Full trail = Leaves request [] trail trail
LeavesNothing request (answer.CountFull moment) trail = Leaves request [] trail trail
LeavesNothing request answer.Spent trail = Unit {0}
LeavesNothing request _ trail = ⊥

word-leaves : (request : AddRequest) → Comes (λ trail told. TellsBare request told trail) [] (add_word request)
unfolding BareEnds TellsBare Leaves
word-leaves request =
    Comes-bound (BareEnds request) (λ trail told. TellsBare request told trail) (λ outcome. Ends (answer_of add_stops outcome)) (add_each request [] (families_if request.ipv4 request.ipv6) all_left) []
    (each-leaves request (families_if request.ipv4 request.ipv6) [] all_left [] tt) ends
  where
    ends : (trail : Trail) (outcome : Outcome AddAnswer) → BareEnds request trail outcome → TellsBare request (answer_of add_stops outcome) trail
    ends trail (Went left told) k = k
    ends trail (Stops left OutOfTries) k = tt
    ends trail (Stops left OutOfClaims) k = tt
    ends trail (Stops left NoRoom) k = k
    ends trail (Stops left (CountAtLimit moment)) k = k
    ends trail (Stops left NoRevisions) k = tt

pub leaves-nothing : (request : AddRequest) → Comes (λ trail told. LeavesNothing request told trail) [] (told_as of_add (add_word request))
unfolding LeavesNothing TellsBare
leaves-nothing request =
    Comes-bound (λ trail told. TellsBare request told trail) (λ trail told. LeavesNothing request told trail) (λ one. Ends (of_add one)) (add_word request) [] (word-leaves request) ends
  where
    ends : (trail : Trail) (told : AddAnswer) → TellsBare request told trail → LeavesNothing request (of_add told) trail
    ends trail (add.Added given) k = tt
    ends trail (add.Again lost claims) k = tt
    ends trail add.Spent k = tt
    ends trail other k = k
