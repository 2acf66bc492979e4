-- What both kinds of ADD do in a round: their labels say what their calls have made.
use Rattle.std.proofs.Common.{◌≡◌, inl, inr, ℕ, zero, suc, ◌+◌, ◌-◌, List, [], ◌∷◌, ◌++◌, Option, Some, None, refl, sym, ap, ◌∙◌, subst}
use Rattle.ipam_addr.specs.declared.address.Family.{Family}
use Rattle.ipam_addr.specs.Shape.{CidrValue}
use Rattle.ipam_block.specs.Shape.{BlockValue}
use Rattle.ipam_records.specs.declared.call.Call.TheVariants.{Get, List as ListAll}
use Rattle.ipam_records.specs.declared.key.Key.TheVariants as key
use Rattle.ipam_records.specs.declared.key.Kind.TheVariants as kind
use Rattle.ipam_records.specs.Word.{Ends, Word}
use Rattle.ipam_model.specs.declared.answer.Scan.{Scan}
use Rattle.ipam_model.specs.declared.answer.Answer.{Answer}
use Rattle.ipam_model.specs.declared.outcome.AddAnswer.{AddAnswer}
use Rattle.ipam_model.specs.declared.outcome.Gift.{Gift}
use Rattle.ipam_model.specs.declared.outcome.Served.{Served}
use Rattle.ipam_model.specs.declared.outcome.Served.TheVariants.{Gave, Refused}
use Rattle.ipam_model.specs.declared.part.Assigned.{Assigned}
use Rattle.ipam_model.specs.declared.part.Left.{Left}
use Rattle.ipam_model.specs.declared.part.Outcome.{Outcome}
use Rattle.ipam_model.specs.declared.part.Outcome.TheVariants.{Went, Stops}
use Rattle.ipam_model.specs.declared.part.Stop.{Stop}
use Rattle.ipam_model.specs.declared.part.Stop.TheVariants.{OutOfTries, OutOfClaims, NoRoom, CountAtLimit, NoRevisions}
use Rattle.ipam_model.specs.declared.request.AddRequest.{AddRequest}
use Rattle.ipam_model.specs.declared.request.Request.{Request}
use Rattle.ipam_model.specs.declared.request.Request.TheVariants.{Add}
use Rattle.ipam_model.specs.Affinities.{BlockRead, revision_read}
use Rattle.ipam_model.specs.Add.{add_word, NextRound, add_each, add_stops, after_assign, after_family, after_stop, asked_of, claim_in, five_reads, follow_pick, follow_rank, free_gift, refuse, round_of, serve, take_in}
use Rattle.ipam_model.specs.Assigning.{assign, claim_for, target_in}
use Rattle.ipam_model.specs.Choice.{Foreign, Lacks, Own, Pick, Picks, Rank, Seen, Unclaimed, Unconfirmed, Unknown, block_at, pick_of}
use Rattle.ipam_model.specs.Counting.{freeing_one}
use Rattle.ipam_model.specs.Step.{Part, StopAnswers, all_left, answer_of, confirmed_so_far, lost_so_far, most_claims, most_lost, part_then, onward, rounds, as_word, stop_answer, stops}
use Rattle.ipam_model.specs.Told.{of_add}
use Rattle.ipam_model.specs.Usable.{families_if}
use Rattle.ipam_laws.proofs.SeenReads.{seen_by_stores}
use Rattle.ipam_laws.proofs.AddRounds.{HasRead, picked-read}
use Rattle.ipam_laws.proofs.Debts.{Nothing}
use Rattle.ipam_laws.proofs.LookedBlocks.{KnowsRead, listed-read, looked-read, looked-revision}
use Rattle.ipam_laws.proofs.PointTrails.{seen_last}
use Rattle.ipam_laws.proofs.RequestSteps.{one-picks}
use Rattle.ipam_laws.proofs.Says.{Clean, IsGivenUp, NoneLeft, Rests, Says, Says-bound, Settled, StopsClean, TooOften, rests-tells, stays-listed, stays-read}
use Rattle.ipam_laws.proofs.SaysBlocks.{assign-says, free-says}
use Rattle.ipam_laws.proofs.SaysClaims.{claim_for-says}
use Rattle.ipam_laws.proofs.Trails.{Did, Trail}

-- ---- parts

-- a procedure that is tried too often, or finds no revisions, says so
pub record GivesUp {A : Type 0} (of_one : A → Answer) (answers : StopAnswers A) : Type 0 where
  pub tries : (left : Left) → IsGivenUp (of_one (stop_answer answers left OutOfTries))
  pub claims : (left : Left) → IsGivenUp (of_one (stop_answer answers left OutOfClaims))
  pub revisions : (left : Left) → IsGivenUp (of_one (stop_answer answers left NoRevisions))

module _ (request : Request) where
  -- a part that answers
  pub settles : {A : Type 0} → (of_one : A → Answer) (answers : StopAnswers A) → GivesUp of_one answers → (part : Part A) (trail : Trail) → Says request (Clean request) trail part → Says request (Settled request of_one) trail (as_word answers part)
  settles {A} of_one answers gives part trail h = Says-bound request (Clean request) (Settled request of_one) (λ outcome. Ends (answer_of answers outcome)) part trail h (λ longer outcome since k. ends longer outcome k)
    where
      ends : (longer : Trail) (outcome : Outcome A) → Clean request longer outcome → Settled request of_one longer (answer_of answers outcome)
      ends longer (Went left a) k = inl k
      ends longer (Stops left OutOfTries) k = inr (gives.tries left)
      ends longer (Stops left OutOfClaims) k = inr (gives.claims left)
      ends longer (Stops left NoRoom) k = inl k
      ends longer (Stops left (CountAtLimit moment)) k = inl k
      ends longer (Stops left NoRevisions) k = inr (gives.revisions left)

  -- a part after another
  pub then-says : {A B : Type 0} → (part : Part A) (follows : Left → A → Part B) (trail : Trail) → Says request (Clean request) trail part → ((longer : Trail) (left : Left) (a : A) → Rests request longer → Says request (Clean request) longer (follows left a)) → Says request (Clean request) trail (part_then part follows)
  then-says {A} part follows trail h k = Says-bound request (Clean request) (Clean request) (onward follows) part trail h (λ longer outcome since clean. ends longer outcome clean)
    where
      ends : (longer : Trail) (outcome : Outcome A) → Clean request longer outcome → Says request (Clean request) longer (onward follows outcome)
      ends longer (Went left a) clean = k longer left a clean
      ends longer (Stops left why) clean = clean

  -- what a round has read of the block at the slot: it is known, and was seen last
  pub record IsSeen (five : Trail) (slot : CidrValue) (read : BlockRead) : Type 0 where
    pub knows : KnowsRead five slot read
    pub saw : seen_last slot five ≡ Some (revision_read read)

  pub five-says : {A : Type 0} → (Q : Trail → A → Type 0) (family : Family) (follows : Scan → Seen → Word A) (trail : Trail) → Rests request trail
      → ((scan : Scan) (seen : Seen) (five : Trail) → scan.family ≡ family → Rests request five → ((slot : CidrValue) → IsSeen five slot (block_at seen slot)) → Says request Q five (follows scan seen))
      → Says request Q trail (five_reads family follows)
  unfolding seen_last
  five-says Q family follows trail rests k = (
    rests-tells request trail rests,
    λ c config a1 s1.
        let one : Trail = Did c config (Get key.Config) ∷ trail in
        let at1 = stays-read request c config trail Nothing rests key.Config (λ n x e. cc e) in (
          rests-tells request one at1,
          λ p pools a2 s2.
              let two : Trail = Did p pools (Get key.Pools) ∷ one in
              let at2 = stays-read request p pools one Nothing at1 key.Pools (λ n x e. cc e) in (
                rests-tells request two at2,
                λ r reservations a3 s3.
                    let three : Trail = Did r reservations (Get key.Reservations) ∷ two in
                    let at3 = stays-read request r reservations two Nothing at2 key.Reservations (λ n x e. cc e) in (
                      rests-tells request three at3,
                      λ f affinities a4 s4.
                          let four : Trail = Did f affinities (ListAll kind.Affinity) ∷ three in
                          let at4 = stays-listed request f affinities three Nothing at3 kind.Affinity in (
                            rests-tells request four at4,
                            λ b blocks a5 s5.
                                let five : Trail = Did b blocks (ListAll kind.Block) ∷ four in
                                k (record { family = family; c = c; p = p; r = r; f = f; b = b })
                                (seen_by_stores config pools reservations affinities blocks)
                                five refl (stays-listed request b blocks four Nothing at4 kind.Block)
                                (λ slot. record {
                                  knows = subst (λ (o : BlockRead). KnowsRead five slot o) (sym (listed-read blocks slot)) (looked-read b blocks (ListAll kind.Block) four slot);
                                  saw = ap Some (looked-revision blocks slot ∙ ap revision_read (sym (listed-read blocks slot)));
                                }),
                          ),
                    ),
              ),
        ),
  )

-- ---- an ADD of each wanted family

module _ (request : AddRequest) where
  abbrev asks : Request
  asks = Add request

  abbrev SaysNext : NextRound → Type 0
  SaysNext next = (left : Left) (trail : Trail) → Rests asks trail → Says asks (Clean asks) trail (next left)

  take-says : (scan : Scan) (next : NextRound) → SaysNext next → (five : Trail) (left : Left) (slot : CidrValue) (found : ℕ × BlockValue) (ordinal : ℕ) → Rests asks five → IsSeen asks five slot (Some found)
      → Says asks (Clean asks) five (take_in (record { request = request; scan = scan; next = next }) left (target_in found ordinal))
  take-says scan next h five left slot found ordinal rests seen =
      then-says asks (assign request.attributes (target_in found ordinal) left) (after_assign (record { request = request; scan = scan; next = next }) (target_in found ordinal)) five
      (assign-says asks request.attributes (target_in found ordinal) left five seen.knows.1 rests) ends
    where
      ends : (longer : Trail) (now : Left) (done : Option Assigned) → Rests asks longer → Says asks (Clean asks) longer (after_assign (record { request = request; scan = scan; next = next }) (target_in found ordinal) now done)
      ends longer now (Some done) k = k
      ends longer now None k = h now longer k

  claim-says : (scan : Scan) (next : NextRound) → SaysNext next → (five : Trail) (left : Left) (slot : CidrValue) (read : BlockRead) → Rests asks five → IsSeen asks five slot read
      → Says asks (Clean asks) five (claim_in (record { request = request; scan = scan; next = next }) left slot read)
  claim-says scan next h five left slot read rests seen =
      then-says asks (claim_for request.node slot read left) (λ now done. next now) five
      (claim_for-says asks refl request.node slot read left five seen.knows seen.saw rests) (λ longer now done k. h now longer k)

  rank-says : (scan : Scan) (next : NextRound) → SaysNext next → (five : Trail) (left : Left) (slot : CidrValue) (rank : Rank) → Rests asks five → HasRead (IsSeen asks five slot) rank
      → Says asks (Clean asks) five (follow_rank (record { request = request; scan = scan; next = next }) left slot rank)
  rank-says scan next h five left slot (Own found ordinal) rests seen = take-says scan next h five left slot found ordinal rests seen
  rank-says scan next h five left slot (Unconfirmed found) rests seen = claim-says scan next h five left slot (Some found) rests seen
  rank-says scan next h five left slot (Unclaimed read) rests seen = claim-says scan next h five left slot read rests seen
  rank-says scan next h five left slot (Foreign found ordinal) rests seen = take-says scan next h five left slot found ordinal rests seen

  pick-says : (family : Family) (scan : Scan) (what : Seen) (next : NextRound) → SaysNext next → (five : Trail) (left : Left) → Rests asks five → ((slot : CidrValue) → IsSeen asks five slot (block_at what slot)) → (pick : Pick) → pick_of (asked_of request family) what ≡ pick
      → Says asks (Clean asks) five (follow_pick (record { request = request; scan = scan; next = next }) left pick)
  pick-says family scan what next h five left rests seen (Picks ranked) picked =
      rank-says scan next h five left ranked.slot ranked.rank rests (picked-read (IsSeen asks five ranked.slot) (asked_of request family) what ranked picked (seen ranked.slot))
  pick-says family scan what next h five left rests seen Lacks picked = rests
  pick-says family scan what next h five left rests seen (Unknown place) picked = rests

  round-says : (family : Family) (next : NextRound) → SaysNext next → SaysNext (round_of request family next)
  round-says family next h left trail rests =
      five-says asks (Clean asks) family (λ scan seen. follow_pick (record { request = request; scan = scan; next = next }) left (pick_of (asked_of request family) seen)) trail rests
      (λ scan what five same at seen. pick-says family scan what next h five left at seen (pick_of (asked_of request family) what) refl)

  rounds-say : (family : Family) (more : ℕ) → SaysNext (rounds (round_of request family) more)
  unfolding rounds
  rounds-say family zero = round-says family (λ now. stops now OutOfTries) (λ now trail rests. tt)
  rounds-say family (suc more) = round-says family (rounds (round_of request family) more) (rounds-say family more)

  refuse-says : (gifts : List Gift) (answer : AddAnswer) (left : Left) (trail : Trail) → Rests asks trail → Says asks (Clean asks) trail (refuse request gifts answer left)
  refuse-says [] answer left trail rests = rests
  refuse-says (gift ∷ gifts) answer left trail rests =
      then-says asks (free_gift request gift left) (λ now amount. refuse request gifts answer now) trail
      (free-says asks (freeing_one request.attributes.handle gift.block (gift.given.address.number - gift.block.base) gift.stamp) (one-picks request.attributes.handle gift.block (gift.given.address.number - gift.block.base) gift.stamp) left trail rests)
      (λ longer now amount k. refuse-says gifts answer now longer k)

  stop-says : (gifts : List Gift) (left : Left) (why : Stop) (trail : Trail) → StopsClean asks trail why → Says asks (Clean asks) trail (after_stop request gifts left why)
  stop-says gifts left OutOfTries trail h = tt
  stop-says gifts left OutOfClaims trail h = tt
  stop-says gifts left NoRoom trail h = refuse-says gifts (stop_answer add_stops left NoRoom) left trail h
  stop-says gifts left (CountAtLimit moment) trail h = refuse-says gifts (stop_answer add_stops left (CountAtLimit moment)) left trail h
  stop-says gifts left NoRevisions trail h = tt

  each-says : (families : List Family) (gifts : List Gift) (left : Left) (trail : Trail) → Rests asks trail → Says asks (Clean asks) trail (add_each request gifts families left)
  unfolding add_each
  each-says [] gifts left trail rests = rests
  each-says (family ∷ families) gifts left trail rests =
      Says-bound asks (Clean asks) (Clean asks) (after_family request gifts (λ gift now. add_each request (gifts ++ gift ∷ []) families now)) (serve request family left) trail
      (rounds-say family (left.races + left.claims) left trail rests)
      (λ longer outcome since k. ends longer outcome k (λ gift now at. each-says families (gifts ++ gift ∷ []) now longer at))
    where
      ends : (longer : Trail) (outcome : Outcome Served) → Clean asks longer outcome → ((gift : Gift) (now : Left) → Rests asks longer → Says asks (Clean asks) longer (add_each request (gifts ++ gift ∷ []) families now))
          → Says asks (Clean asks) longer (after_family request gifts (λ gift now. add_each request (gifts ++ gift ∷ []) families now) outcome)
      ends longer (Went now (Gave gift)) k rest = rest gift now k
      ends longer (Went now (Refused answer)) k rest = refuse-says gifts answer now longer k
      ends longer (Stops now why) k rest = stop-says gifts now why longer k

  pub add-says : (trail : Trail) → Rests asks trail → Says asks (Settled asks of_add) trail (add_word request)
  add-says trail rests =
      settles asks of_add add_stops
      (record { tries = λ left. TooOften most_lost (confirmed_so_far left); claims = λ left. TooOften (lost_so_far left) most_claims; revisions = λ left. NoneLeft })
      (add_each request [] (families_if request.ipv4 request.ipv6) all_left) trail (each-says (families_if request.ipv4 request.ipv6) [] all_left trail rests)
