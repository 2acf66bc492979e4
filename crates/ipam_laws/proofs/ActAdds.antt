-- What an ADD calls, by the trail that led there.
use Rattle.std.proofs.Common.{◌≡◌, inl, ℕ, zero, suc, ◌+◌, ◌-◌, List, [], ◌∷◌, ◌++◌, Option, Some, None, refl, ap, ◌∙◌, arith}
use Rattle.std.specs.Prelude.{Contains}
use Rattle.std.specs.List.{count_by}
use Rattle.ipam_addr.specs.declared.address.Family.{Family}
use Rattle.ipam_addr.specs.Shape.{CidrValue}
use Rattle.ipam_block.specs.Shape.{BlockValue}
use Rattle.ipam_records.specs.declared.call.Call.TheVariants.{Get, List as ListAll}
use Rattle.ipam_records.specs.Datastore.{Datastore}
use Rattle.ipam_records.specs.Label.{idle}
use Rattle.ipam_records.specs.declared.key.Key.TheVariants as key
use Rattle.ipam_records.specs.declared.key.Kind.TheVariants as kind
use Rattle.ipam_model.specs.declared.answer.Scan.{Scan}
use Rattle.ipam_model.specs.declared.choice.Choice.TheVariants.{Claim}
use Rattle.ipam_model.specs.declared.outcome.AddAnswer.{AddAnswer}
use Rattle.ipam_model.specs.declared.outcome.Gift.{Gift}
use Rattle.ipam_model.specs.declared.outcome.Served.{Served}
use Rattle.ipam_model.specs.declared.outcome.Served.TheVariants.{Gave, Refused}
use Rattle.ipam_model.specs.declared.part.Assigned.{Assigned}
use Rattle.ipam_model.specs.declared.part.Left.{Left}
use Rattle.ipam_model.specs.declared.part.Outcome.{Outcome}
use Rattle.ipam_model.specs.declared.part.Outcome.TheVariants.{Went, Stops}
use Rattle.ipam_model.specs.declared.part.Stop.{Stop}
use Rattle.ipam_model.specs.declared.part.Stop.TheVariants.{OutOfTries, OutOfClaims, NoRoom, CountAtLimit, NoRevisions}
use Rattle.ipam_model.specs.declared.request.AddRequest.{AddRequest}
use Rattle.ipam_model.specs.declared.request.Request.TheVariants.{Add}
use Rattle.ipam_model.specs.Affinities.{BlockRead}
use Rattle.ipam_model.specs.AddLaw.{families_of}
use Rattle.ipam_model.specs.Add.{add_word, NextRound, Round, add_each, add_stops, after_assign, after_family, after_stop, asked_of, claim_in, follow_pick, follow_rank, free_gift, gift_of, refuse, round_of, serve, take_in}
use Rattle.ipam_model.specs.Assigning.{Target, assign, claim_for, target_in}
use Rattle.ipam_model.specs.Choice.{Foreign, Lacks, Own, Pick, Picks, Rank, Seen, Unclaimed, Unconfirmed, Unknown, block_at, choice_at, choice_in, pick_of}
use Rattle.ipam_model.specs.Counting.{FreedOfHandle, freeing_one}
use Rattle.ipam_model.specs.Step.{Part, all_left, onward, rounds, stop_answer, stops}
use Rattle.ipam_model.specs.Usable.{families_if}
use Rattle.ipam_laws.proofs.SeenReads.{seen_by_stores}
use Rattle.ipam_laws.proofs.ActWords.{reads-acts, settles}
use Rattle.ipam_laws.proofs.Acting.{Act, Assigns, ByRound, Claims, Counts, ForAdd, Frees, GoesBy, OfAdd, Reads}
use Rattle.ipam_laws.proofs.ActParts.{Any, AssignDone, Begins, DidAssign, Goes, InClaim, IsCurrent, MayAssign, MayClaim, MayFree, WasRead, assign-acts, assigning_call, claim_for-acts, free-acts, freeing_call}
use Rattle.ipam_laws.proofs.Acts.{Acts, Acts-bound, Later, Same, Since, since-agrees, since-since}
use Rattle.ipam_laws.proofs.AddFamilies.{KnownAt, listed-known}
use Rattle.ipam_laws.proofs.AddRounds.{FiveRead, HasRead, five-read, picked-read}
use Rattle.ipam_laws.proofs.Members.{in-here, in-there}
use Rattle.ipam_laws.proofs.Trails.{Did, Trail}

-- ---- one family

-- what was given is an address that was assigned
pub record IsGiven (request : AddRequest) (trail : Trail) (gift : Gift) : Type 0 where
  pub scan : Scan
  pub target : Target
  pub done : Assigned
  pub is : gift ≡ gift_of scan target done
  pub stamp : done.stamp ≡ target.block.sequence + 1
  pub did : DidAssign request.attributes target trail

did-since : (request : AddRequest) (target : Target) (trail longer : Trail) → Since trail longer → DidAssign request.attributes target trail → DidAssign request.attributes target longer
did-since request target trail longer since h = record {
  moment = h.moment;
  store = h.store;
  before = h.before;
  since = since-since (Did h.moment h.store (assigning_call request.attributes target) ∷ h.before) trail longer h.since since;
  revision = h.revision;
  done = h.done;
  current = h.current;
}

given-since : (request : AddRequest) (trail longer : Trail) (gift : Gift) → Since trail longer → IsGiven request trail gift → IsGiven request longer gift
given-since request trail longer gift since h = record {
  scan = h.scan;
  target = h.target;
  done = h.done;
  is = h.is;
  stamp = h.stamp;
  did = did-since request h.target trail longer since h.did;
}

unfoldable ServedDone : AddRequest → Trail → Outcome Served → Type 0
ServedDone request trail (Went left (Gave gift)) = IsGiven request trail gift
ServedDone request trail (Went left (Refused answer)) = Unit {0}
ServedDone request trail (Stops left why) = Unit {0}

module _ (request : AddRequest) where
  ActsServed : Part Served → Type 0
  ActsServed part = (trail : Trail) → Acts (Act (Add request)) (ServedDone request) trail part

  -- the block that is taken is known
  may-take : (five : Trail) (slot : CidrValue) (found : ℕ × BlockValue) (ordinal : ℕ) → KnownAt five slot (Some found) → MayAssign (Act (Add request)) (reads-acts (Add request)) request.attributes (target_in found ordinal) five
  may-take five slot found ordinal known = record {
    counts = λ trail store label asked is. Counts request.attributes.handle is (ForAdd request (inl refl) refl);
    current = λ trail since store agrees. known.1 store (since-agrees store five trail since agrees);
    may = λ trail store current. Assigns request.attributes (target_in found ordinal) refl current refl;
  }

  take-acts : (round : Round) → round.request ≡ request → ((left : Left) → ActsServed (round.next left)) → (five : Trail) (left : Left) (slot : CidrValue) (found : ℕ × BlockValue) (ordinal : ℕ) → KnownAt five slot (Some found)
      → Acts (Act (Add request)) (ServedDone request) five (take_in (record round { request = request }) left (target_in found ordinal))
  unfolding ServedDone AssignDone ActsServed
  take-acts round same next five left slot found ordinal known =
      Acts-bound (Act (Add request)) (AssignDone request.attributes (target_in found ordinal)) (ServedDone request) (onward (after_assign (record round { request = request }) (target_in found ordinal))) (assign request.attributes (target_in found ordinal) left) five
      (assign-acts (Act (Add request)) (reads-acts (Add request)) request.attributes (target_in found ordinal) five left (may-take five slot found ordinal known)) ends
    where
      ends : (longer : Trail) (outcome : Outcome (Option Assigned)) → Since five longer → AssignDone request.attributes (target_in found ordinal) longer outcome
          → Acts (Act (Add request)) (ServedDone request) longer (onward (after_assign (record round { request = request }) (target_in found ordinal)) outcome)
      ends longer (Went now (Some done)) since k = record {
        scan = round.scan;
        target = target_in found ordinal;
        done = done;
        is = refl;
        stamp = k.1;
        did = k.0;
      }
      ends longer (Went now None) since k = next now longer
      ends longer (Stops now why) since k = tt

  -- what is claimed is what the choice says, and is still as it was listed
  may-claim : (five : Trail) (slot : CidrValue) (read : BlockRead) → KnownAt five slot read → GoesBy (Add request) request slot read five → MayClaim (Act (Add request)) (reads-acts (Add request)) request.node slot read five
  may-claim five slot read known by trail within store label asked agrees is =
      Claims request slot read five is (was-read read known (claim-since five trail within)) by within
    where
      claim-since : (origin longer : Trail) → InClaim origin longer → Since origin longer
      claim-since origin longer Begins = Same
      claim-since origin longer (Goes moment old call rest no_round before) = Later (Did moment old call) rest (claim-since origin rest before)

      was-read : (read : BlockRead) → KnownAt five slot read → Since five trail → WasRead store slot read
      was-read None k since = tt
      was-read (Some found) k since = (k.0, λ there at. k.1 store (since-agrees store five trail since agrees) there at)

  claim-acts : (scan : Scan) (next : NextRound) → ((left : Left) → ActsServed (next left)) → (five : Trail) (left : Left) (slot : CidrValue) (read : BlockRead) → KnownAt five slot read → GoesBy (Add request) request slot read five
      → Acts (Act (Add request)) (ServedDone request) five (claim_in (record { request = request; scan = scan; next = next }) left slot read)
  unfolding ServedDone ActsServed
  claim-acts scan next h five left slot read known by =
      Acts-bound (Act (Add request)) Any (ServedDone request) (onward (λ now done. next now)) (claim_for request.node slot read left) five
      (claim_for-acts (Act (Add request)) (reads-acts (Add request)) request.node slot read left five (may-claim five slot read known by)) ends
    where
      ends : (longer : Trail) (outcome : Outcome (Unit {0})) → Since five longer → Any longer outcome → Acts (Act (Add request)) (ServedDone request) longer (onward (λ now done. next now) outcome)
      ends longer (Went now done) since any = h now longer
      ends longer (Stops now why) since any = tt

  rank-acts : (scan : Scan) (next : NextRound) → ((left : Left) → ActsServed (next left)) → (five : Trail) (left : Left) (slot : CidrValue) (rank : Rank) → HasRead (KnownAt five slot) rank
      → ((read : BlockRead) → choice_at slot rank ≡ Claim slot → HasRead (λ other. other ≡ read) rank → GoesBy (Add request) request slot read five)
      → Acts (Act (Add request)) (ServedDone request) five (follow_rank (record { request = request; scan = scan; next = next }) left slot rank)
  rank-acts scan next h five left slot (Own found ordinal) known by = take-acts (record { request = request; scan = scan; next = next }) refl h five left slot found ordinal known
  rank-acts scan next h five left slot (Unconfirmed found) known by = claim-acts scan next h five left slot (Some found) known (by (Some found) refl refl)
  rank-acts scan next h five left slot (Unclaimed read) known by = claim-acts scan next h five left slot read known (by read refl refl)
  rank-acts scan next h five left slot (Foreign found ordinal) known by = take-acts (record { request = request; scan = scan; next = next }) refl h five left slot found ordinal known

  pick-acts : (scan : Scan) (seen : Seen) (next : NextRound) → ((left : Left) → ActsServed (next left)) → (before five : Trail) → FiveRead scan seen before five → Contains (families_of request) scan.family → ((slot : CidrValue) → KnownAt five slot (block_at seen slot)) → (left : Left) (pick : Pick) → pick_of (asked_of request scan.family) seen ≡ pick
      → Acts (Act (Add request)) (ServedDone request) five (follow_pick (record { request = request; scan = scan; next = next }) left pick)
  unfolding ServedDone
  pick-acts scan seen next h before five reads wanted knows left (Picks ranked) picked =
      rank-acts scan next h five left ranked.slot ranked.rank
      (picked-read (KnownAt five ranked.slot) (asked_of request scan.family) seen ranked picked (knows ranked.slot))
      (λ read is same.
      ByRound scan seen before refl reads wanted (ap choice_in picked ∙ is)
      (read-is ranked.rank read (picked-read (λ other. block_at seen ranked.slot ≡ other) (asked_of request scan.family) seen ranked picked refl) same))
    where
      read-is : (rank : Rank) (read : BlockRead) → HasRead (λ other. block_at seen ranked.slot ≡ other) rank → HasRead (λ other. other ≡ read) rank → block_at seen ranked.slot ≡ read
      read-is (Own found ordinal) read a b = a ∙ b
      read-is (Unconfirmed found) read a b = a ∙ b
      read-is (Unclaimed other) read a b = a ∙ b
      read-is (Foreign found ordinal) read a b = a ∙ b
  pick-acts scan seen next h before five reads wanted knows left Lacks picked = tt
  pick-acts scan seen next h before five reads wanted knows left (Unknown place) picked = tt

  round-acts : (family : Family) → Contains (families_of request) family → (next : NextRound) → ((left : Left) → ActsServed (next left)) → (left : Left) → ActsServed (round_of request family next left)
  unfolding ActsServed
  round-acts family wanted next h left trail = λ c config a1. (
    Reads refl,
    λ p pools a2. (
      Reads refl,
      λ r reservations a3. (
        Reads refl,
        λ f affinities a4. (
          Reads refl,
          λ b blocks a5.
              let scan : Scan = record { family = family; c = c; p = p; r = r; f = f; b = b } in
              let seen : Seen = seen_by_stores config pools reservations affinities blocks in
              let four : Trail = Did f affinities (ListAll kind.Affinity) ∷ Did r reservations (Get key.Reservations) ∷ Did p pools (Get key.Pools) ∷ Did c config (Get key.Config) ∷ trail in
              let five : Trail = Did b blocks (ListAll kind.Block) ∷ four in (
                Reads refl,
                pick-acts scan seen next h trail five (five-read scan config pools reservations affinities blocks trail) wanted (λ slot. listed-known blocks four b slot (block_at seen slot) refl) left (pick_of (asked_of request family) seen) refl,
              ),
        ),
      ),
    ),
  )

  rounds-act : (family : Family) → Contains (families_of request) family → (more : ℕ) (left : Left) → ActsServed (rounds (round_of request family) more left)
  unfolding rounds ActsServed ServedDone
  rounds-act family wanted zero left = round-acts family wanted (λ now. stops now OutOfTries) (λ now trail. tt) left
  rounds-act family wanted (suc more) left = round-acts family wanted (rounds (round_of request family) more) (rounds-act family wanted more) left

  -- ---- each wanted family

  unfoldable AreGiven : Trail → List Gift → Type 0
  AreGiven trail [] = Unit {0}
  AreGiven trail (gift ∷ gifts) = IsGiven request trail gift × AreGiven trail gifts

  are-since : (trail longer : Trail) (gifts : List Gift) → Since trail longer → AreGiven trail gifts → AreGiven longer gifts
  unfolding AreGiven
  are-since trail longer [] since h = tt
  are-since trail longer (gift ∷ gifts) since h = (given-since request trail longer gift since h.0, are-since trail longer gifts since h.1)

  are-more : (trail : Trail) (gifts : List Gift) (gift : Gift) → AreGiven trail gifts → IsGiven request trail gift → AreGiven trail (gifts ++ gift ∷ [])
  unfolding AreGiven
  are-more trail [] gift h one = (one, tt)
  are-more trail (first ∷ gifts) gift h one = (h.0, are-more trail gifts gift h.1 one)

  -- a gift may be freed
  may-free : (trail : Trail) (gift : Gift) → IsGiven request trail gift
      → MayFree (Act (Add request)) (reads-acts (Add request)) (freeing_one request.attributes.handle gift.block (gift.given.address.number - gift.block.base) gift.stamp) trail
  may-free trail gift given = record {
    counts = λ longer store label asked is. Counts request.attributes.handle is (ForAdd request (inl refl) refl);
    frees = frees;
  }
    where
      what : FreedOfHandle
      what = freeing_one request.attributes.handle gift.block (gift.given.address.number - gift.block.base) gift.stamp

      frees : (longer : Trail) → Since trail longer → (store : Datastore) (b : BlockValue) (revision amount : ℕ) → b.cidr ≡ what.block → IsCurrent store revision b → count_by what.picks b.allocations ≡ suc amount
          → Act (Add request) longer store idle (freeing_call what b revision)
      frees longer since store b revision amount same current count =
          let target = given.target in
          let number : target.block.cidr.base + target.ordinal - target.block.cidr.base ≡ target.ordinal = omega arith in
          let whole : what ≡ freeing_one request.attributes.handle target.block.cidr target.ordinal (target.block.sequence + 1) =
          ap (λ (g : Gift). freeing_one request.attributes.handle g.block (g.given.address.number - g.block.base) g.stamp) given.is
          ∙ ap (λ (n : ℕ). freeing_one request.attributes.handle target.block.cidr n given.done.stamp) number
          ∙ ap (λ (n : ℕ). freeing_one request.attributes.handle target.block.cidr target.ordinal n) given.stamp in
          Frees what b revision amount refl current same count (OfAdd request target refl (did-since request target trail longer since given.did) whole)

  refuse-acts : (gifts : List Gift) (answer : AddAnswer) (left : Left) (trail : Trail) → AreGiven trail gifts → Acts (Act (Add request)) Any trail (refuse request gifts answer left)
  unfolding AreGiven
  refuse-acts [] answer left trail h = tt
  refuse-acts (gift ∷ gifts) answer left trail h =
      Acts-bound (Act (Add request)) Any Any (onward (λ now amount. refuse request gifts answer now)) (free_gift request gift left) trail
      (free-acts (Act (Add request)) (reads-acts (Add request)) (freeing_one request.attributes.handle gift.block (gift.given.address.number - gift.block.base) gift.stamp) left trail (may-free trail gift h.0))
      (λ longer outcome since any. ends longer outcome (λ now. refuse-acts gifts answer now longer (are-since trail longer gifts since h.1)))
    where
      ends : (longer : Trail) (outcome : Outcome ℕ) → ((now : Left) → Acts (Act (Add request)) Any longer (refuse request gifts answer now)) → Acts (Act (Add request)) Any longer (onward (λ now amount. refuse request gifts answer now) outcome)
      ends longer (Went now amount) k = k now
      ends longer (Stops now why) k = tt

  stop-acts : (gifts : List Gift) (left : Left) (why : Stop) (trail : Trail) → AreGiven trail gifts → Acts (Act (Add request)) Any trail (after_stop request gifts left why)
  stop-acts gifts left OutOfTries trail h = tt
  stop-acts gifts left OutOfClaims trail h = tt
  stop-acts gifts left NoRoom trail h = refuse-acts gifts (stop_answer add_stops left NoRoom) left trail h
  stop-acts gifts left (CountAtLimit moment) trail h = refuse-acts gifts (stop_answer add_stops left (CountAtLimit moment)) left trail h
  stop-acts gifts left NoRevisions trail h = tt

  each-acts : (families : List Family) → ((one : Family) → Contains families one → Contains (families_of request) one) → (gifts : List Gift) (left : Left) (trail : Trail) → AreGiven trail gifts → Acts (Act (Add request)) Any trail (add_each request gifts families left)
  unfolding add_each ActsServed ServedDone
  each-acts [] every gifts left trail h = tt
  each-acts (family ∷ families) every gifts left trail h =
      Acts-bound (Act (Add request)) (ServedDone request) Any (after_family request gifts (λ gift now. add_each request (gifts ++ gift ∷ []) families now)) (serve request family left) trail
      (rounds-act family (every family (in-here family families)) (left.races + left.claims) left trail)
      (λ longer outcome since served. ends longer outcome (are-since trail longer gifts since h) served (λ gift now all. each-acts families (λ one there. every one (in-there one family families there)) (gifts ++ gift ∷ []) now longer all))
    where
      ends : (longer : Trail) (outcome : Outcome Served) → AreGiven longer gifts → ServedDone request longer outcome
          → ((gift : Gift) (now : Left) → AreGiven longer (gifts ++ gift ∷ []) → Acts (Act (Add request)) Any longer (add_each request (gifts ++ gift ∷ []) families now))
          → Acts (Act (Add request)) Any longer (after_family request gifts (λ gift now. add_each request (gifts ++ gift ∷ []) families now) outcome)
      ends longer (Went now (Gave gift)) all served k = k gift now (are-more longer gifts gift all served)
      ends longer (Went now (Refused answer)) all served k = refuse-acts gifts answer now longer all
      ends longer (Stops now why) all served k = stop-acts gifts now why longer all

  pub add-acts : (trail : Trail) → Acts (Act (Add request)) Any trail (add_word request)
  unfolding AreGiven
  add-acts trail = settles (Add request) add_stops (add_each request [] (families_if request.ipv4 request.ipv6) all_left) trail (each-acts (families_if request.ipv4 request.ipv6) (λ one there. there) [] all_left trail tt)
