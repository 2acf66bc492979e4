-- What the answers of an ADD say of the families that are wanted, by the trail that led to them.
use Rattle.std.proofs.Common.{◌≡◌, ℕ, zero, suc, ◌+◌, ◌-◌, ◌⊎◌, inl, inr, Bool, true, false, List, [], ◌∷◌, ◌++◌, map, Option, Some, None, refl, sym, ap, ◌∙◌, subst, arith}
use Rattle.std.specs.Prelude.{nat_le}
use Rattle.std.specs.List.{All, find}
use Rattle.ipam_addr.specs.declared.address.Family.{Family}
use Rattle.ipam_addr.specs.declared.address.Family.TheVariants.{V4, V6}
use Rattle.ipam_addr.specs.Shape.{CidrValue}
use Rattle.ipam_block.specs.Shape as block
use Rattle.ipam_block.specs.HandleOperations.{count_of}
use Rattle.ipam_records.specs.declared.call.Call.TheVariants.{Get, List as ListAll}
use Rattle.ipam_records.specs.declared.key.Key.TheVariants as key
use Rattle.ipam_records.specs.declared.key.Kind.TheVariants as kind
use Rattle.ipam_records.specs.declared.record.Record.TheVariants as record_of
use Rattle.ipam_records.specs.Datastore.{Datastore, rows_of_kind, reply_of}
use Rattle.ipam_records.specs.Word.{Word, Ends, Asks, Waits, bound}
use Rattle.ipam_model.specs.declared.answer.Answer.{Answer}
use Rattle.ipam_model.specs.declared.answer.Answer.TheVariants as answer
use Rattle.ipam_model.specs.declared.answer.Scan.{Scan}
use Rattle.ipam_model.specs.declared.choice.Choice.{Choice}
use Rattle.ipam_model.specs.declared.choice.Choice.TheVariants.{Use, Borrow, Nothing, NoPool}
use Rattle.ipam_model.specs.declared.outcome.AddAnswer.{AddAnswer}
use Rattle.ipam_model.specs.declared.outcome.AddAnswer.TheVariants as add
use Rattle.ipam_model.specs.declared.request.AddRequest.{AddRequest}
use Rattle.ipam_model.specs.declared.outcome.Gift.{Gift}
use Rattle.ipam_model.specs.declared.outcome.Served.{Served}
use Rattle.ipam_model.specs.declared.outcome.Served.TheVariants.{Gave, Refused}
use Rattle.ipam_model.specs.Add.{gift_of, NextRound, Round, add_each, add_stops, add_word, after_assign, after_family, after_stop, asked_of, claim_in, follow_pick, follow_rank, free_gift, name_in_place, refuse, round_of, serve, take_in}
use Rattle.ipam_block.specs.Operations.{ordinal_address}
use Rattle.ipam_model.specs.declared.answer.Given.{Given}
use Rattle.ipam_model.specs.AddLaw.{families_of, scan_of}
use Rattle.ipam_model.specs.declared.part.Assigned.{Assigned}
use Rattle.ipam_model.specs.Assigning.{assign, claim_for, names_for, target_in}
use Rattle.ipam_model.specs.Affinities.{BlockRead}
use Rattle.ipam_model.specs.Choice.{IsChoice, Lacks, Own, Unconfirmed, Unclaimed, Foreign, Pick, Picks, Rank, Seen, Unknown, block_at, block_in_found, choice_at, choice_in, is_block_at, pick_of}
use Rattle.ipam_model.specs.Counting.{freeing_one, most_count}
use Rattle.ipam_model.specs.Reads.{handle_said}
use Rattle.ipam_model.specs.Requests.{told_as}
use Rattle.ipam_model.specs.declared.part.Left.{Left}
use Rattle.ipam_model.specs.declared.part.Outcome.{Outcome}
use Rattle.ipam_model.specs.declared.part.Stop.{Stop}
use Rattle.ipam_model.specs.declared.part.Stop.TheVariants.{OutOfTries, OutOfClaims, NoRoom, CountAtLimit, NoRevisions}
use Rattle.ipam_model.specs.declared.part.Outcome.TheVariants.{Went, Stops}
use Rattle.ipam_model.specs.Step.{Part, all_left, answer_of, onward, rounds, stop_answer, stops}
use Rattle.ipam_model.specs.Told.{of_add}
use Rattle.ipam_model.specs.Usable.{families_if}
use Rattle.ipam_model.proofs.ChoiceLemmas.{choice_is}
use Rattle.ipam_laws.proofs.SeenReads.{seen_by_stores}
use Rattle.ipam_laws.proofs.AddParts.{AssignEnds, AssignsLast, GivesLast, GoesQuietly, KnowsRead, NotLimit, StopsOtherwise, assign-comes, claim-for, free-comes}
use Rattle.ipam_laws.proofs.AddRounds.{AreGivenBy, IsGivenBy, all-given-more, one-given-more, quietly-chosen, Among, FiveRead, IsAimed, IsChosen, IsFor, IsRefusal, ServedEnds, aimed-more, chosen-more, chosen-family, picked-read, HasRead, for-did, get-gives-none, otherwise-served, quietly-for, seen-at, five-read}
use Rattle.ipam_model.specs.AffinityLaw.{HasAt}
use Rattle.ipam_laws.proofs.Acts.{Same as Since-same}
use Rattle.ipam_laws.proofs.AddTrails.{HasGift, Knows, Same}
use Rattle.ipam_laws.proofs.Trails.{AgreesAll, Comes, Comes-bound, Did, Got, Step, Trail}

-- ---- a round

-- the latest step listed the block as it was read
pub record IsListed (trail : Trail) (found : ℕ × block.BlockValue) : Type 0 where
  pub b : ℕ
  pub blocks : Datastore
  pub rest : Trail
  pub is : trail ≡ Did b blocks (ListAll kind.Block) ∷ rest
  pub at : HasAt blocks (key.Block found.1.cidr) found.0 (record_of.Block found.1)

-- a block as it was read is known, and lies at the slot
abbrev pub KnownAt : Trail → CidrValue → BlockRead → Type 0
KnownAt trail slot None = Unit {0}
KnownAt trail slot (Some found) = (found.1.cidr ≡ slot) × Knows trail found.0 found.1 × IsListed trail found

-- what is read in a round and is known from it
record InRound (request : AddRequest) (scan : Scan) (seen : Seen) (five : Trail) : Type 0 where
  before : Trail
  reads : FiveRead scan seen before five
  is_for : IsFor request scan.family before
  still_for : IsFor request scan.family five
  knows : (slot : CidrValue) (read : BlockRead) → block_at seen slot ≡ read → KnownAt five slot read

abbrev NextServed : AddRequest → Family → NextRound → Type 0
NextServed request family next = (left : Left) (trail : Trail) → IsFor request family trail → Comes (ServedEnds request family) trail (next left)

known-read : (five : Trail) (slot : CidrValue) (read : BlockRead) → KnownAt five slot read → KnowsRead five read
known-read five slot None h = tt
known-read five slot (Some found) h = h.1

abbrev IsPicked : AddRequest → Scan → Seen → CidrValue → ℕ → Type 0
IsPicked request scan seen slot ordinal =
    IsChoice (asked_of request scan.family) seen (Use slot ordinal) ⊎ IsChoice (asked_of request scan.family) seen (Borrow slot ordinal)

picked-family : (request : AddRequest) (scan : Scan) (seen : Seen) (slot : CidrValue) (ordinal : ℕ) → IsPicked request scan seen slot ordinal → slot.family ≡ scan.family
picked-family request scan seen slot ordinal (inl is) = chosen-family (asked_of request scan.family) seen (Use slot ordinal) is slot ordinal (inl refl)
picked-family request scan seen slot ordinal (inr is) = chosen-family (asked_of request scan.family) seen (Borrow slot ordinal) is slot ordinal (inr refl)

is-chosen : (request : AddRequest) (scan : Scan) (seen : Seen) (five : Trail) (choice : Choice) → InRound request scan seen five → IsChoice (asked_of request scan.family) seen choice → IsChosen request scan choice five
is-chosen request scan seen five choice r is = record {
  seen = seen;
  before = r.before;
  five = five;
  more = [];
  is = refl;
  reads = r.reads;
  round = r.is_for;
  is_choice = is;
}

take-comes : (round : Round) (seen : Seen) (five : Trail) (left : Left) (slot : CidrValue) (ordinal : ℕ) (found : ℕ × block.BlockValue) → InRound round.request round.scan seen five → NextServed round.request round.scan.family round.next
    → IsPicked round.request round.scan seen slot ordinal → KnownAt five slot (Some found)
    → Comes (ServedEnds round.request round.scan.family) five (take_in round left (target_in found ordinal))
unfolding ServedEnds AssignEnds
take-comes round seen five left slot ordinal found r after picked known =
    Comes-bound (AssignEnds five round.request.attributes (target_in found ordinal)) (ServedEnds round.request round.scan.family) (onward (after_assign round (target_in found ordinal))) (assign round.request.attributes (target_in found ordinal) left) five
    (assign-comes five round.request.attributes (target_in found ordinal) left known.1)
    (ends (ap (λ (c : CidrValue). c.family) known.0 ∙ picked-family round.request round.scan seen slot ordinal picked))
  where
    chosen : (choice : Choice) (trail : Trail) → GivesLast five round.scan.family trail → IsChoice (asked_of round.request round.scan.family) seen choice → IsChosen round.request round.scan choice trail
    chosen choice trail last is =
        let further = chosen-more round.request round.scan choice last.between (Did last.moment last.store last.asked)
        (quietly-chosen round.request round.scan choice five last.between last.quiet (is-chosen round.request round.scan seen five choice r is)) in
        subst (λ (t : Trail). IsChosen round.request round.scan choice t) (sym last.is) further

    given : (trail : Trail) (one : Given) (done : Assigned) → one.w ≡ done.moment → AssignsLast five round.request.attributes (target_in found ordinal) done trail → one ≡ record {
      address = ordinal_address found.1.cidr ordinal;
      c = round.scan.c;
      p = round.scan.p;
      r = round.scan.r;
      f = round.scan.f;
      b = round.scan.b;
      w = one.w;
    } → GivesLast five round.scan.family trail → IsGivenBy round.request trail round.scan.family one
    given trail one done at_w assigns is last =
        let rows_of_kind = known.2 in
        let both : Did rows_of_kind.b rows_of_kind.blocks (ListAll kind.Block) ∷ rows_of_kind.rest ≡ Did round.scan.b r.reads.blocks (ListAll kind.Block) ∷ _ = sym rows_of_kind.is ∙ r.reads.is in
        let blocks : rows_of_kind.blocks ≡ r.reads.blocks = cc both in
        let moment : rows_of_kind.b ≡ one.b = (let m : rows_of_kind.b ≡ round.scan.b = cc both in m) ∙ sym (ap (λ (g : Given). g.b) is) in
        let same : round.scan ≡ scan_of round.scan.family one = ap (scan_of round.scan.family) (sym is) in
        record {
          cidr = slot;
          ordinal = ordinal;
          chosen = elim picked [
            | inl own ↦ inl (subst (λ (scan : Scan). IsChosen round.request scan (Use slot ordinal) trail) same (chosen (Use slot ordinal) trail last own))
            | inr other ↦ inr (subst (λ (scan : Scan). IsChosen round.request scan (Borrow slot ordinal) trail) same (chosen (Borrow slot ordinal) trail last other))
          ];
          is_address = ap (λ (g : Given). g.address) is ∙ ap (λ (c : CidrValue). ordinal_address c ordinal) known.0;
          found = found;
          done = done;
          five = five;
          at = trail;
          since = Since-same;
          assigns = assigns;
          at_w = at_w;
          blocks = rows_of_kind.blocks;
          rest = rows_of_kind.rest;
          listed = subst (λ (m : ℕ). five ≡ Did m rows_of_kind.blocks (ListAll kind.Block) ∷ rows_of_kind.rest) moment rows_of_kind.is;
          was = subst (λ (c : CidrValue). HasAt rows_of_kind.blocks (key.Block c) found.0 (record_of.Block found.1)) known.0 rows_of_kind.at;
          named = known.0;
        }

    ends : found.1.cidr.family ≡ round.scan.family → (trail : Trail) (outcome : Outcome (Option Assigned)) → AssignEnds five round.request.attributes (target_in found ordinal) trail outcome
        → Comes (ServedEnds round.request round.scan.family) trail (onward (after_assign round (target_in found ordinal)) outcome)
    ends own trail (Went now (Some done)) k =
        let last : GivesLast five round.scan.family trail = subst (λ (f : Family). GivesLast five f trail) own k.0 in
        (five, r.still_for, last, given trail (gift_of round.scan (target_in found ordinal) done).given done refl k.1 refl last)
    ends own trail (Went now None) k = after now trail (quietly-for round.request round.scan.family five trail k r.still_for)
    ends own trail (Stops now OutOfTries) k = tt
    ends own trail (Stops now OutOfClaims) k = tt
    ends own trail (Stops now NoRoom) k = tt
    ends own trail (Stops now NoRevisions) k = tt
    ends own trail (Stops now (CountAtLimit moment)) k = record {
      scan = round.scan;
      cidr = slot;
      ordinal = ordinal;
      seen = seen;
      before = r.before;
      five = five;
      between = k.between;
      more = [];
      store = k.store;
      reads = r.reads;
      round = r.is_for;
      is_choice = picked;
      quiet = k.quiet;
      is = k.is;
      limit = subst (λ (c : CidrValue). nat_le most_count (count_of (handle_said round.request.attributes.handle (reply_of k.store (Get (key.Handle round.request.attributes.handle)))) c) ≡ true) known.0 k.limit;
    }

claim-comes : (round : Round) (seen : Seen) (five : Trail) (left : Left) (slot : CidrValue) (read : BlockRead) → InRound round.request round.scan seen five → NextServed round.request round.scan.family round.next → KnownAt five slot read
    → Comes (ServedEnds round.request round.scan.family) five (claim_in round left slot read)
unfolding ServedEnds GoesQuietly
claim-comes round seen five left slot read r after known =
    Comes-bound (GoesQuietly five) (ServedEnds round.request round.scan.family) (onward (λ now done. round.next now)) (claim_for round.request.node slot read left) five
    (claim-for five five round.request.node slot read left Same (known-read five slot read known)) ends
  where
    ends : (trail : Trail) (outcome : Outcome (Unit {0})) → GoesQuietly five trail outcome → Comes (ServedEnds round.request round.scan.family) trail (onward (λ now done. round.next now) outcome)
    ends trail (Went now done) k = after now trail (quietly-for round.request round.scan.family five trail k r.still_for)
    ends trail (Stops now why) k = otherwise-served round.request round.scan.family trail now why k.0

rank-comes : (round : Round) (seen : Seen) (five : Trail) (left : Left) (slot : CidrValue) (rank : Rank) → InRound round.request round.scan seen five → NextServed round.request round.scan.family round.next
    → IsChoice (asked_of round.request round.scan.family) seen (choice_at slot rank) → HasRead (KnownAt five slot) rank
    → Comes (ServedEnds round.request round.scan.family) five (follow_rank round left slot rank)
rank-comes round seen five left slot (Own found ordinal) r after is known = take-comes round seen five left slot ordinal found r after (inl is) known
rank-comes round seen five left slot (Unconfirmed found) r after is known = claim-comes round seen five left slot (Some found) r after known
rank-comes round seen five left slot (Unclaimed read) r after is known = claim-comes round seen five left slot read r after known
rank-comes round seen five left slot (Foreign found ordinal) r after is known = take-comes round seen five left slot ordinal found r after (inr is) known

follow-comes : (round : Round) (seen : Seen) (five : Trail) (left : Left) (pick : Pick) → InRound round.request round.scan seen five → NextServed round.request round.scan.family round.next
    → pick_of (asked_of round.request round.scan.family) seen ≡ pick → IsChoice (asked_of round.request round.scan.family) seen (choice_in pick)
    → Comes (ServedEnds round.request round.scan.family) five (follow_pick round left pick)
unfolding ServedEnds IsRefusal
follow-comes round seen five left (Picks ranked) r after picked is =
    rank-comes round seen five left ranked.slot ranked.rank r after is
    (picked-read (KnownAt five ranked.slot) (asked_of round.request round.scan.family) seen ranked picked (r.knows ranked.slot (block_at seen ranked.slot) refl))
follow-comes round seen five left Lacks r after picked is = is-chosen round.request round.scan seen five Nothing r is
follow-comes round seen five left (Unknown place) r after picked is = (round.scan, place, refl, refl, is-chosen round.request round.scan seen five (NoPool place) r is)

-- a block that was listed is known from then on
pub listed-known : (blocks : Datastore) (four : Trail) (b : ℕ) (slot : CidrValue) (read : BlockRead) → block_in_found (find (is_block_at slot) (rows_of_kind kind.Block blocks)) ≡ read → KnownAt (Did b blocks (ListAll kind.Block) ∷ four) slot read
unfolding AgreesAll
listed-known blocks four b slot None e = tt
listed-known blocks four b slot (Some found) e =
    let at = seen-at blocks slot found e in (
      at.same,
      (λ store agrees old there. sym (agrees.0 (key.Block found.1.cidr) found.0 (record_of.Block found.1) old at.at there)),
      record { b = b; blocks = blocks; rest = four; is = refl; at = at.at },
    )

round-comes : (request : AddRequest) (family : Family) (next : NextRound) → NextServed request family next → NextServed request family (round_of request family next)
round-comes request family next after left trail is_for = λ c config a1 p pools a2 r reservations a3 f affinities a4 b blocks a5.
    let scan : Scan = record { family = family; c = c; p = p; r = r; f = f; b = b } in
    let seen : Seen = seen_by_stores config pools reservations affinities blocks in
    let one : Trail = Did c config (Get key.Config) ∷ trail in
    let two : Trail = Did p pools (Get key.Pools) ∷ one in
    let three : Trail = Did r reservations (Get key.Reservations) ∷ two in
    let four : Trail = Did f affinities (ListAll kind.Affinity) ∷ three in
    let five : Trail = Did b blocks (ListAll kind.Block) ∷ four in
    let for_one = for-did request family trail c config (Get key.Config) (get-gives-none config (Get key.Config) (inl refl)) is_for in
    let for_two = for-did request family one p pools (Get key.Pools) (get-gives-none pools (Get key.Pools) (inr (inl refl))) for_one in
    let for_three = for-did request family two r reservations (Get key.Reservations) (get-gives-none reservations (Get key.Reservations) (inr (inr (inl refl)))) for_two in
    let for_four = for-did request family three f affinities (ListAll kind.Affinity) (get-gives-none affinities (ListAll kind.Affinity) (inr (inr (inr (inl refl))))) for_three in
    let for_five = for-did request family four b blocks (ListAll kind.Block) (get-gives-none blocks (ListAll kind.Block) (inr (inr (inr (inr refl))))) for_four in
    let in_round : InRound request scan seen five = record {
      before = trail;
      reads = five-read scan config pools reservations affinities blocks trail;
      is_for = is_for;
      still_for = for_five;
      knows = λ slot read e. listed-known blocks four b slot read e;
    } in
    follow-comes (record { request = request; scan = scan; next = next }) seen five left (pick_of (asked_of request family) seen) in_round after refl (choice_is (asked_of request family) seen)

rounds-come : (request : AddRequest) (family : Family) (more : ℕ) → NextServed request family (rounds (round_of request family) more)
unfolding rounds NotLimit
rounds-come request family zero = round-comes request family (λ now. stops now OutOfTries) (ends request family)
  where
    ends : (request : AddRequest) (family : Family) → NextServed request family (λ now. stops now OutOfTries)
    ends request family left trail is_for = otherwise-served request family trail left OutOfTries tt
rounds-come request family (suc more) = round-comes request family (rounds (round_of request family) more) (rounds-come request family more)

serve-comes : (request : AddRequest) (family : Family) (left : Left) (trail : Trail) → IsFor request family trail → Comes (ServedEnds request family) trail (serve request family left)
serve-comes request family left trail is_for = rounds-come request family (left.races + left.claims) left trail is_for

-- ---- what is freed again

-- what lasts under each step more lasts to the end of a word
pub comes-lasting : {A : Type 0} → (Q : Trail → A → Type 0) (K : Trail → Type 0) → ((trail : Trail) (step : Step) → K trail → K (step ∷ trail)) → (w : Word A) (trail : Trail) → K trail → Comes Q trail w → Comes (λ longer a. Q longer a × K longer) trail w
comes-lasting Q K lasts (Ends answer) trail k h = (h, k)
comes-lasting Q K lasts (Asks label asked next) trail k h = λ moment store agrees.
    comes-lasting Q K lasts (next moment (reply_of store asked)) (Did moment store asked ∷ trail) (lasts trail (Did moment store asked) k) (h moment store agrees)
comes-lasting Q K lasts (Waits next) trail k h = λ moment at live.
    comes-lasting Q K lasts (next live) (Got moment at live ∷ trail) (lasts trail (Got moment at live) k) (h moment at live)

refusal-more : (request : AddRequest) (answer : AddAnswer) (trail : Trail) (step : Step) → IsRefusal request answer trail → IsRefusal request answer (step ∷ trail)
unfolding IsRefusal
refusal-more request (add.Added given) trail step h = all-given-more request trail (families_of request) given step h
refusal-more request (add.Exhausted scan) trail step h = chosen-more request scan Nothing trail step h
refusal-more request (add.NoPool called moment) trail step (scan, place, at, called_so, h) = (scan, place, at, called_so, chosen-more request scan (NoPool place) trail step h)
refusal-more request (add.Again lost claims) trail step h = tt
refusal-more request add.Full trail step h = tt
refusal-more request (add.CountFull moment) trail step h = aimed-more request moment trail step h
refusal-more request add.Spent trail step h = tt

-- what an ADD comes to
unfoldable AddEnds : AddRequest → Trail → Outcome AddAnswer → Type 0
AddEnds request trail (Went left answer) = IsRefusal request answer trail
AddEnds request trail (Stops left (CountAtLimit moment)) = IsAimed request moment trail
AddEnds request trail (Stops left why) = Unit {0}

otherwise-ends : (request : AddRequest) (trail : Trail) (left : Left) (why : Stop) → NotLimit why → AddEnds request trail (Stops left why)
unfolding AddEnds NotLimit
otherwise-ends request trail left OutOfTries h = tt
otherwise-ends request trail left OutOfClaims h = tt
otherwise-ends request trail left NoRoom h = tt
otherwise-ends request trail left (CountAtLimit moment) h = absurd h
otherwise-ends request trail left NoRevisions h = tt

refuse-comes : (request : AddRequest) (gifts : List Gift) (answer : AddAnswer) (left : Left) (trail : Trail) → IsRefusal request answer trail → Comes (AddEnds request) trail (refuse request gifts answer left)
unfolding AddEnds StopsOtherwise
refuse-comes request [] answer left trail h = h
refuse-comes request (gift ∷ gifts) answer left trail h =
    Comes-bound (λ longer (outcome : Outcome ℕ). StopsOtherwise longer outcome × IsRefusal request answer longer) (AddEnds request) (onward (λ now amount. refuse request gifts answer now)) (free_gift request gift left) trail
    (comes-lasting StopsOtherwise (IsRefusal request answer) (refusal-more request answer) (free_gift request gift left) trail h
    (free-comes (freeing_one request.attributes.handle gift.block (gift.given.address.number - gift.block.base) gift.stamp) left trail)) (ends (λ now longer k. refuse-comes request gifts answer now longer k))
  where
    ends : ((now : Left) (longer : Trail) → IsRefusal request answer longer → Comes (AddEnds request) longer (refuse request gifts answer now))
        → (longer : Trail) (outcome : Outcome ℕ) → StopsOtherwise longer outcome × IsRefusal request answer longer → Comes (AddEnds request) longer (onward (λ now amount. refuse request gifts answer now) outcome)
    ends rest longer (Went now amount) k = rest now longer k.1
    ends rest longer (Stops now why) k = otherwise-ends request longer now why k.0

stop-comes : (request : AddRequest) (gifts : List Gift) (family : Family) (left : Left) (why : Stop) (trail : Trail) → ServedEnds request family trail (Stops left why) → Comes (AddEnds request) trail (after_stop request gifts left why)
unfolding ServedEnds AddEnds IsRefusal
stop-comes request gifts family left OutOfTries trail h = tt
stop-comes request gifts family left OutOfClaims trail h = tt
stop-comes request gifts family left NoRoom trail h = refuse-comes request gifts add.Full left trail tt
stop-comes request gifts family left (CountAtLimit moment) trail h = refuse-comes request gifts (add.CountFull moment) left trail h
stop-comes request gifts family left NoRevisions trail h = tt

-- ---- each wanted family

family-comes : (request : AddRequest) (gifts : List Gift) (family : Family) (rest : Gift → Left → Part AddAnswer) (left : Left) (trail : Trail) (K : Trail → Type 0) → ((t : Trail) (step : Step) → K t → K (step ∷ t)) → K trail → IsFor request family trail
    → ((gift : Gift) (now : Left) (mid longer : Trail) → IsFor request family mid → GivesLast mid family longer → IsGivenBy request longer family gift.given → K longer → Comes (AddEnds request) longer (rest gift now))
    → Comes (AddEnds request) trail (bound (serve request family left) (after_family request gifts rest))
unfolding ServedEnds
family-comes request gifts family rest left trail K lasts k is_for gives =
    Comes-bound (λ t (o : Outcome Served). ServedEnds request family t o × K t) (AddEnds request) (after_family request gifts rest) (serve request family left) trail
    (comes-lasting (ServedEnds request family) K lasts (serve request family left) trail k (serve-comes request family left trail is_for)) ends
  where
    ends : (longer : Trail) (outcome : Outcome Served) → ServedEnds request family longer outcome × K longer → Comes (AddEnds request) longer (after_family request gifts rest outcome)
    ends longer (Went now (Gave gift)) ((mid, mid_for, last, given), kept) = gives gift now mid longer mid_for last given kept
    ends longer (Went now (Refused answer)) (h, kept) = refuse-comes request gifts answer now longer h
    ends longer (Stops now why) (h, kept) = stop-comes request gifts family now why longer h

last-comes : (request : AddRequest) (gifts : List Gift) (earlier : List Family) (family : Family) (left : Left) (trail : Trail) → families_of request ≡ earlier ++ family ∷ [] → AreGivenBy request trail earlier (map (λ gift. gift.given) gifts) → IsFor request family trail
    → ((gift : Gift) → map (λ gift. gift.given) (gifts ++ gift ∷ []) ≡ map (λ gift. gift.given) gifts ++ gift.given ∷ [])
    → Comes (AddEnds request) trail (add_each request gifts (family ∷ []) left)
unfolding add_each AddEnds IsRefusal
last-comes request gifts earlier family left trail wanted given is_for appended =
    family-comes request gifts family (λ gift now. add_each request (gifts ++ gift ∷ []) [] now) left trail (λ t. AreGivenBy request t earlier (map (λ gift. gift.given) gifts))
    (λ t step k. all-given-more request t earlier (map (λ gift. gift.given) gifts) step k) given is_for
    (λ gift now mid longer mid_for last one kept.
    let all = one-given-more request longer earlier (map (λ gift. gift.given) gifts) family gift.given kept one in
    subst (λ (list : List Given). AreGivenBy request longer (families_of request) list) (sym (appended gift))
    (subst (λ (families : List Family). AreGivenBy request longer families (map (λ gift. gift.given) gifts ++ gift.given ∷ [])) (sym wanted) all))

-- the second family, once the first was given
second-for : (request : AddRequest) (mid trail : Trail) → families_of request ≡ V4 ∷ V6 ∷ [] → IsFor request V4 mid → GivesLast mid V4 trail → IsFor request V6 trail
unfolding HasGift Among
second-for request mid trail both is_for last =
    subst (λ (t : Trail). IsFor request V6 t) (sym last.is) (record {
      earlier = V4 ∷ [];
      later = [];
      wanted = both;
      given = given;
      only = only;
      apart = λ among. elim among [ inl e ↦ absurd (cc e) | inr none ↦ none ];
    })
  where
    given : All (HasGift (Did last.moment last.store last.asked ∷ last.between)) (V4 ∷ [])
    given zero d within = inl last.gift
    given (suc n) d within = absurd (omega arith)

    between_for : IsFor request V4 last.between
    between_for = quietly-for request V4 mid last.between last.quiet is_for

    none_earlier : (earlier later : List Family) → families_of request ≡ earlier ++ V4 ∷ later → ¬ (Among earlier V4) → (other : Family) → ¬ (Among earlier other)
    none_earlier [] later wanted apart other among = among
    none_earlier (first ∷ earlier) later wanted apart other among = let same : V4 ≡ first = cc (both, wanted) in apart (inl same)

    only : (other : Family) → HasGift (Did last.moment last.store last.asked ∷ last.between) other → Among (V4 ∷ []) other
    only other (inl gift) = inl (last.only other gift)
    only other (inr before) = absurd (none_earlier between_for.earlier between_for.later between_for.wanted between_for.apart other (between_for.only other before))

first-for : (request : AddRequest) (family : Family) (later : List Family) → families_of request ≡ family ∷ later → IsFor request family []
unfolding HasGift Among
first-for request family later wanted = record {
  earlier = [];
  later = later;
  wanted = wanted;
  given = λ n d within. absurd (omega arith);
  only = λ other none. none;
  apart = λ none. none;
}

each-comes : (request : AddRequest) (ipv4 ipv6 : Bool) → families_of request ≡ families_if ipv4 ipv6 → Comes (AddEnds request) [] (add_each request [] (families_if ipv4 ipv6) all_left)
unfolding add_each AddEnds IsRefusal AreGivenBy
each-comes request true true wanted =
    family-comes request [] V4 (λ gift now. add_each request (gift ∷ []) (V6 ∷ []) now) all_left [] (λ t. Unit {0}) (λ t step k. tt) tt (first-for request V4 (V6 ∷ []) wanted)
    (λ gift now mid longer mid_for last one kept.
    last-comes request (gift ∷ []) (V4 ∷ []) V6 now longer wanted (one, tt) (second-for request mid longer wanted mid_for last) (λ other. refl))
each-comes request true false wanted = last-comes request [] [] V4 all_left [] wanted tt (first-for request V4 [] wanted) (λ other. refl)
each-comes request false true wanted = last-comes request [] [] V6 all_left [] wanted tt (first-for request V6 [] wanted) (λ other. refl)
each-comes request false false wanted = subst (λ (families : List Family). AreGivenBy request [] families []) (sym wanted) tt

-- ---- the answer

unfoldable pub IsTold : AddRequest → Answer → Trail → Type 0
IsTold request (answer.Added given) trail = AreGivenBy request trail (families_of request) given
IsTold request (answer.Exhausted scan) trail = IsChosen request scan Nothing trail
IsTold request (answer.NoPool called moment) trail =
    (scan : Scan) × (place : ℕ) × (moment ≡ scan.p) × (called ≡ name_in_place (names_for scan.family request) place) × IsChosen request scan (NoPool place) trail
IsTold request (answer.CountFull moment) trail = IsAimed request moment trail
IsTold request _ trail = Unit {0}

stop-told : (request : AddRequest) (trail : Trail) (left : Left) (why : Stop) → AddEnds request trail (Stops left why) → IsRefusal request (stop_answer add_stops left why) trail
unfolding AddEnds IsRefusal
stop-told request trail left (CountAtLimit moment) k = k
stop-told request trail left other k = tt

add-comes : (request : AddRequest) → Comes (λ trail told. IsRefusal request told trail) [] (add_word request)
unfolding AddEnds
add-comes request =
    Comes-bound (AddEnds request) (λ trail told. IsRefusal request told trail) (λ outcome. Ends (answer_of add_stops outcome)) (add_each request [] (families_if request.ipv4 request.ipv6) all_left) []
    (each-comes request request.ipv4 request.ipv6 refl) ends
  where
    ends : (trail : Trail) (outcome : Outcome AddAnswer) → AddEnds request trail outcome → IsRefusal request (answer_of add_stops outcome) trail
    ends trail (Went left told) k = k
    ends trail (Stops left why) k = stop-told request trail left why k

pub told-comes : (request : AddRequest) → Comes (λ trail told. IsTold request told trail) [] (told_as of_add (add_word request))
unfolding IsTold IsRefusal
told-comes request =
    Comes-bound (λ trail told. IsRefusal request told trail) (λ trail told. IsTold request told trail) (λ one. Ends (of_add one)) (add_word request) [] (add-comes request) ends
  where
    ends : (trail : Trail) (told : AddAnswer) → IsRefusal request told trail → IsTold request (of_add told) trail
    ends trail (add.Again lost claims) k = tt
    ends trail add.Full k = tt
    ends trail add.Spent k = tt
    ends trail other k = k
