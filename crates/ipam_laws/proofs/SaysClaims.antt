-- A claim and a release: their labels say what their calls have made.
use Rattle.std.proofs.Common.{◌≡◌, ◌≢◌, ℕ, zero, suc, ◌≤◌, List, ◌∷◌, Option, Some, None, refl, sym, ap, ◌∙◌, subst, arith}
use Rattle.std.specs.Prelude.{IsTrue}
use Rattle.std.specs.List.{count_by}
use Rattle.ipam_addr.specs.Shape.{CidrValue}
use Rattle.ipam_block.specs.declared.record.Affinity.{Affinity}
use Rattle.ipam_block.specs.declared.state.State.{State}
use Rattle.ipam_block.specs.declared.state.State.TheVariants.{Pending, Confirmed, PendingDeletion}
use Rattle.ipam_block.specs.Shape.{BlockValue}
use Rattle.ipam_block.specs.Operations.{affine_to, fresh_block, is_owned, next_block}
use Rattle.ipam_records.specs.declared.call.Call.{Call}
use Rattle.ipam_records.specs.declared.call.Call.TheVariants.{Get, Create, Update}
use Rattle.ipam_records.specs.declared.key.Key.TheVariants as key
use Rattle.ipam_records.specs.declared.record.Record.{Record}
use Rattle.ipam_records.specs.declared.record.Record.TheVariants as record_of
use Rattle.ipam_records.specs.Datastore.{Datastore, reply_of}
use Rattle.ipam_records.specs.Label.{Point, Nowhere, Claiming, Claimed, idle, standing}
use Rattle.ipam_records.specs.Said.{Said, Found, Can, Full, Spent}
use Rattle.ipam_records.specs.Word.{Asks, Ends, Word}
use Rattle.ipam_model.specs.declared.outcome.ClaimAnswer.{ClaimAnswer}
use Rattle.ipam_model.specs.declared.outcome.ClaimAnswer.TheVariants as claimed
use Rattle.ipam_model.specs.declared.part.Left.{Left}
use Rattle.ipam_model.specs.declared.request.Request.{Request}
use Rattle.ipam_model.specs.declared.request.Request.TheVariants.{Release}
use Rattle.ipam_model.specs.AffinityLaw.{HasAt}
use Rattle.ipam_model.specs.Affinities.{BlockRead, affinity, claim, claim_block, claim_confirm, claim_found, claim_kept, claiming, on_claim_write, revision_read}
use Rattle.ipam_model.specs.Assigning.{after_claim, after_confirmed, claim_for}
use Rattle.ipam_model.specs.Cluster.{new_record}
use Rattle.ipam_model.specs.CountLaw.{held_count, held_in_row}
use Rattle.ipam_model.specs.Reads.{affinity_said}
use Rattle.ipam_model.specs.Step.{after_lost, goes}
use Rattle.ipam_model.specs.Tries.{is_add}
use Rattle.ipam_laws.proofs.Calls.{create-can}
use Rattle.ipam_laws.proofs.DebtCalls.{Puts, apart-harmless, block-harmless, create-puts, get-undone, lost-undone, update-puts}
use Rattle.ipam_laws.proofs.Debts.{Debt, Freed, Harmless, Nothing, Owes, Raised, credit_in, owes-none, owes-still}
use Rattle.ipam_laws.proofs.LookedBlocks.{KnowsRead, knows-more}
use Rattle.ipam_laws.proofs.PointSteps.{puts-claimed}
use Rattle.ipam_laws.proofs.PointTrails.{IsAtPoint, AsFound, AsPut, affinity-nowhere, keeps-claiming, lost-nowhere, read-nowhere, seen_last}
use Rattle.ipam_laws.proofs.Says.{Clean, Rests, Says, Says-bound, Tells, rests-tells, wrote}
use Rattle.ipam_laws.proofs.SaysBlocks.{current-there}
use Rattle.ipam_laws.proofs.Trails.{AgreesAll, Did, Trail}

-- ---- what was said of an affinity

pub affinity-found : (said : Said) (found : ℕ × Affinity) → affinity_said said ≡ Some found → said ≡ Found found.0 (record_of.Affinity found.1)
affinity-found (Found revision (record_of.Affinity a)) found e = let same : (revision, a) ≡ found = cc e in ap (λ (p : ℕ × Affinity). Found p.0 (record_of.Affinity p.1)) same
affinity-found other found e = absurd (cc e)

-- ---- a write of a block that holds what it held

-- the block as it was read, or a fresh one
pub data WritesBlock (trail : Trail) (asked : Call) (new : BlockValue) : Type 0 where
  Begins : asked ≡ Create (record_of.Block new) → WritesBlock trail asked new
  Goes : (b : BlockValue) (old : ℕ) → asked ≡ Update (record_of.Block new) old → new.cidr ≡ b.cidr → ((id : List ℕ) → count_by (is_owned id) b.allocations ≤ count_by (is_owned id) new.allocations)
      → ((store : Datastore) → AgreesAll store trail → (found : Record) → HasAt store (key.Block b.cidr) old found → found ≡ record_of.Block b) → WritesBlock trail asked new

pub writes-new : (trail : Trail) (asked : Call) (new : BlockValue) → WritesBlock trail asked new → new_record asked ≡ Some (record_of.Block new)
writes-new trail asked new (Begins is) = ap new_record is
writes-new trail asked new (Goes b old is same kept knows) = ap new_record is

pub writes-harmless : (trail : Trail) (store : Datastore) (asked : Call) (new : BlockValue) → AgreesAll store trail → WritesBlock trail asked new → Harmless store asked
writes-harmless trail store asked new agrees (Begins is) =
    subst (λ (c : Call). Harmless store c) (sym is)
    (block-harmless store (Create (record_of.Block new)) new (create-puts (record_of.Block new)) (λ r e id.
    let none : held_count store id new.cidr ≡ 0 = ap (held_in_row id) (create-can store (record_of.Block new) r e) in omega arith))
writes-harmless trail store asked new agrees (Goes b old is same kept knows) =
    subst (λ (c : Call). Harmless store c) (sym is)
    (block-harmless store (Update (record_of.Block new) old) new (update-puts (record_of.Block new) old) (λ r e id.
    let there = current-there store b new old r same (knows store agrees) e in
    let was : held_count store id b.cidr ≡ count_by (is_owned id) b.allocations = ap (held_in_row id) there in
    let more = kept id in
    let at : held_count store id new.cidr ≡ held_count store id b.cidr = ap (λ (c : CidrValue). held_count store id c) same in
    omega arith))

module _ (request : Request) where
  -- a call that was lost, and reads no affinity
  pub lost-rests : (moment : ℕ) (store : Datastore) (asked : Call) (trail : Trail) (point : Point) → Tells request trail (standing point) → ((node : List ℕ) (cidr : CidrValue) → asked ≢ Get (key.Affinity node cidr)) → ((r : ℕ) → reply_of store asked ≢ Can r) → Rests request (Did moment store asked ∷ trail)
  lost-rests moment store asked trail point tells reads lost =
      let none = owes-nothing tells.debt tells.owes tells.credit in record {
        owes = owes-still moment store asked trail Nothing (lost-undone store asked lost) none;
        point = lost-nowhere request moment store asked trail reads lost;
      }
    where
      owes-nothing : (debt : Debt) → Owes trail debt → None ≡ credit_in debt → Owes trail Nothing
      owes-nothing Nothing owes e = owes
      owes-nothing (Raised id cidr) owes e = absurd (cc e)
      owes-nothing (Freed credit) owes e = absurd (cc e)

  -- a write of an affinity that leads to no point
  pub affinity-rests : (moment : ℕ) (store : Datastore) (asked : Call) (a : Affinity) (trail : Trail) → Puts asked (record_of.Affinity a) → new_record asked ≡ Some (record_of.Affinity a) → (IsTrue (is_add request) → a.state ≢ Pending) → Owes trail Nothing → Rests request (Did moment store asked ∷ trail)
  affinity-rests moment store asked a trail puts is state owes = record {
    owes = owes-none moment store asked trail (apart-harmless store asked (key.Affinity a.node a.cidr) puts.writes tt) owes;
    point = affinity-nowhere request moment store asked trail a is state;
  }

  -- nothing is owed where a request stands at a point
  pub standing-tells : (trail : Trail) (point : Point) → Owes trail Nothing → IsAtPoint request trail point → Tells request trail (standing point)
  standing-tells trail point owes at = record { debt = Nothing; owes = owes; credit = refl; point = at }

  -- ---- a claim

  -- a claim comes to rest, whatever its answer
  abbrev pub ClaimRests : Trail → ClaimAnswer → Type 0
  ClaimRests trail answer = Rests request trail

  claim-write : (trail : Trail) (said reply : Said) (took : ℕ → Word ClaimAnswer) → said ≡ reply → ((revision : ℕ) → said ≡ Can revision → Says request ClaimRests trail (took revision)) → (((r : ℕ) → said ≢ Can r) → Rests request trail)
      → Says request ClaimRests trail (on_claim_write reply took)
  claim-write trail said reply took e done lost =
      wrote request ClaimRests trail said reply took (Ends claimed.Lost) (Ends claimed.Full) (Ends claimed.Spent) e done lost (λ full f. lost f) lost

  claim-confirm : (node : List ℕ) (cidr : CidrValue) (kept : ℕ) (trail : Trail) → Owes trail Nothing → IsAtPoint request trail (Claimed node cidr kept) → Says request ClaimRests trail (claim_confirm node cidr kept)
  claim-confirm node cidr kept trail owes at =
      let a = affinity node cidr Confirmed in
      let asked = Update (record_of.Affinity a) kept in
      let tells = standing-tells trail (Claimed node cidr kept) owes at in (
        tells,
        λ moment store agrees sound.
            let longer : Trail = Did moment store asked ∷ trail in
            claim-write longer (reply_of store asked) (reply_of store asked) (λ revision. Ends claimed.Confirmed) refl
            (λ r e. affinity-rests moment store asked a trail (update-puts (record_of.Affinity a) kept) refl (λ adds f. cc f) owes)
            (λ f. lost-rests moment store asked trail (Claimed node cidr kept) tells (λ n c g. cc g) f),
      )

  -- what the claim writes of the block that it read
  claimed-block : List ℕ → CidrValue → BlockRead → BlockValue
  claimed-block node cidr None = fresh_block cidr (Some node)
  claimed-block node cidr (Some found) = affine_to (Some node) (next_block found.1)

  claiming-writes : (node : List ℕ) (cidr : CidrValue) (read : BlockRead) (trail : Trail) → KnowsRead trail cidr read → WritesBlock trail (claiming node cidr read) (claimed-block node cidr read)
  unfolding claimed-block
  claiming-writes node cidr None trail knows = Begins refl
  claiming-writes node cidr (Some (revision, b)) trail knows = Goes b revision refl refl (λ id. omega arith) knows.1

  claimed-cidr : (node : List ℕ) (cidr : CidrValue) (read : BlockRead) (trail : Trail) → KnowsRead trail cidr read → (claimed-block node cidr read).cidr ≡ cidr
  unfolding claimed-block
  claimed-cidr node cidr None trail knows = refl
  claimed-cidr node cidr (Some (revision, b)) trail knows = knows.0

  claim-block : (node : List ℕ) (cidr : CidrValue) (read : BlockRead) (kept : ℕ) (trail : Trail) → KnowsRead trail cidr read → Owes trail Nothing → IsAtPoint request trail (Claiming node cidr (revision_read read) kept) → Says request ClaimRests trail (claim_block node cidr read kept)
  claim-block node cidr read kept trail knows owes at =
      let asked = claiming node cidr read in
      let new = claimed-block node cidr read in
      let writes = claiming-writes node cidr read trail knows in
      let same = claimed-cidr node cidr read trail knows in
      let is_new = writes-new trail asked new writes in
      let tells = standing-tells trail (Claiming node cidr (revision_read read) kept) owes at in (
        tells,
        λ moment store agrees sound.
            let longer : Trail = Did moment store asked ∷ trail in
            claim-write longer (reply_of store asked) (reply_of store asked) (λ revision. claim_confirm node cidr kept) refl
            (λ r e.
            let at_own = subst (λ (c : CidrValue). IsAtPoint request trail (Claiming node c (revision_read read) kept)) (sym same) at in
            let then = puts-claimed request moment store asked trail node new (revision_read read) kept r (record { is_new = is_new; can = e }) at_own in
            claim-confirm node cidr kept longer (owes-none moment store asked trail (writes-harmless trail store asked new agrees writes) owes)
            (subst (λ (c : CidrValue). IsAtPoint request longer (Claimed node c kept)) same then))
            (λ f. lost-rests moment store asked trail (Claiming node cidr (revision_read read) kept) tells (λ n c g. let none = sym is_new ∙ ap new_record g in cc none) f),
      )

  module _ (adds : IsTrue (is_add request)) (node : List ℕ) (cidr : CidrValue) (read : BlockRead) where
    -- the affinity is written, and then the block
    claim-put : (asked : Call) (trail : Trail) → asked ≢ Get (key.Affinity node cidr) → new_record asked ≡ Some (record_of.Affinity (affinity node cidr Pending)) → Puts asked (record_of.Affinity (affinity node cidr Pending))
        → ((moment : ℕ) (store : Datastore) → KnowsRead (Did moment store asked ∷ trail) cidr read) → ((moment : ℕ) (store : Datastore) → seen_last cidr (Did moment store asked ∷ trail) ≡ Some (revision_read read)) → Rests request trail
        → Says request ClaimRests trail (Asks idle asked (λ moment said. on_claim_write said (claim_block node cidr read)))
    claim-put asked trail no_get is_new puts knows saw rests = (
      rests-tells request trail rests,
      λ moment store agrees sound.
          let longer : Trail = Did moment store asked ∷ trail in
          claim-write longer (reply_of store asked) (reply_of store asked) (claim_block node cidr read) refl
          (λ r e.
          claim-block node cidr read r longer (knows moment store) (owes-none moment store asked trail (apart-harmless store asked (key.Affinity node cidr) puts.writes tt) rests.owes)
          (keeps-claiming request moment store asked trail node cidr (revision_read read) r adds (AsPut (record { is_new = is_new; can = e })) (saw moment store)))
          (λ f. lost-rests moment store asked trail Nowhere (rests-tells request trail rests) (λ n c g. let none = sym is_new ∙ ap new_record g in cc none) f),
    )

    pub claim-says : (trail : Trail) → KnowsRead trail cidr read → seen_last cidr trail ≡ Some (revision_read read) → Rests request trail → Says request ClaimRests trail (claim node cidr read)
    unfolding claim seen_last
    claim-says trail knows saw rests = (rests-tells request trail rests, λ moment store agrees sound. by moment store (affinity_said (reply_of store (Get (key.Affinity node cidr)))) refl)
      where
        -- an affinity that is missing, or to be deleted, is kept by nobody
        nowhere : (moment : ℕ) (store : Datastore) → ((kept : ℕ) (found : Affinity) → reply_of store (Get (key.Affinity node cidr)) ≡ Found kept (record_of.Affinity found) → found.state ≡ PendingDeletion)
            → Rests request (Did moment store (Get (key.Affinity node cidr)) ∷ trail)
        nowhere moment store gone = record {
          owes = owes-still moment store (Get (key.Affinity node cidr)) trail Nothing (get-undone store (key.Affinity node cidr)) rests.owes;
          point = read-nowhere request moment store (Get (key.Affinity node cidr)) trail node cidr refl (λ t. gone) (λ n c r m h. no-release n c h.releases);
        }
          where
            no-release : (n : List ℕ) (c : CidrValue) → request ≢ Release n c
            no-release n c e = let t = subst (λ (r : Request). IsTrue (is_add r)) e adds in absurd (cc t)

        kept : (moment : ℕ) (store : Datastore) (found : ℕ × Affinity) → reply_of store (Get (key.Affinity node cidr)) ≡ Found found.0 (record_of.Affinity found.1) → found.1.state ≢ PendingDeletion
            → Says request ClaimRests (Did moment store (Get (key.Affinity node cidr)) ∷ trail) (claim_block node cidr read found.0)
        kept moment store found e state =
            claim-block node cidr read found.0 (Did moment store (Get (key.Affinity node cidr)) ∷ trail) (knows-more trail cidr read moment store (Get (key.Affinity node cidr)) knows)
            (owes-still moment store (Get (key.Affinity node cidr)) trail Nothing (get-undone store (key.Affinity node cidr)) rests.owes)
            (keeps-claiming request moment store (Get (key.Affinity node cidr)) trail node cidr (revision_read read) found.0 adds (AsFound found.1 refl e state) saw)

        by-state : (moment : ℕ) (store : Datastore) (found : ℕ × Affinity) → reply_of store (Get (key.Affinity node cidr)) ≡ Found found.0 (record_of.Affinity found.1) → (state : State) → found.1.state ≡ state
            → Says request ClaimRests (Did moment store (Get (key.Affinity node cidr)) ∷ trail) (claim_kept node cidr read found.0 state)
        by-state moment store found e Pending is = kept moment store found e (λ f. cc (is, f))
        by-state moment store found e Confirmed is = kept moment store found e (λ f. cc (is, f))
        by-state moment store found e PendingDeletion is =
            let before : Trail = Did moment store (Get (key.Affinity node cidr)) ∷ trail in
            let new = record_of.Affinity (affinity node cidr Pending) in
            claim-put (Update new found.0) before (λ f. cc f) refl (update-puts new found.0)
            (λ m s. knows-more before cidr read m s (Update new found.0) (knows-more trail cidr read moment store (Get (key.Affinity node cidr)) knows)) (λ m s. saw)
            (nowhere moment store (λ k other f. let same : found.1 ≡ other = cc (e, f) in ap (λ (a : Affinity). a.state) (sym same) ∙ is))

        by : (moment : ℕ) (store : Datastore) (o : Option (ℕ × Affinity)) → affinity_said (reply_of store (Get (key.Affinity node cidr))) ≡ o → Says request ClaimRests (Did moment store (Get (key.Affinity node cidr)) ∷ trail) (claim_found node cidr read o)
        by moment store None e =
            let before : Trail = Did moment store (Get (key.Affinity node cidr)) ∷ trail in
            let new = record_of.Affinity (affinity node cidr Pending) in
            claim-put (Create new) before (λ f. cc f) refl (create-puts new)
            (λ m s. knows-more before cidr read m s (Create new) (knows-more trail cidr read moment store (Get (key.Affinity node cidr)) knows)) (λ m s. saw)
            (nowhere moment store (λ k other f. let some = sym e ∙ ap affinity_said f in absurd (cc some)))
        by moment store (Some found) e = by-state moment store found (affinity-found (reply_of store (Get (key.Affinity node cidr))) found e) found.1.state refl

    pub claim_for-says : (left : Left) (trail : Trail) → KnowsRead trail cidr read → seen_last cidr trail ≡ Some (revision_read read) → Rests request trail → Says request (Clean request) trail (claim_for node cidr read left)
    claim_for-says left trail knows saw rests =
        Says-bound request ClaimRests (Clean request) (after_claim left) (claim node cidr read) trail (claim-says trail knows saw rests) (λ longer answer since k. ends longer answer k)
      where
        confirmed : (longer : Trail) (races claims : ℕ) → Rests request longer → Says request (Clean request) longer (after_confirmed races claims)
        confirmed longer races zero k = tt
        confirmed longer races (suc claims) k = k

        lost : (longer : Trail) (races claims : ℕ) → Rests request longer → Says request (Clean request) longer (after_lost races claims (λ less. goes {A = Unit {0}} less tt))
        lost longer zero claims k = tt
        lost longer (suc races) claims k = k

        ends : (longer : Trail) (answer : ClaimAnswer) → Rests request longer → Says request (Clean request) longer (after_claim left answer)
        ends longer claimed.Confirmed k = confirmed longer left.races left.claims k
        ends longer claimed.Lost k = lost longer left.races left.claims k
        ends longer claimed.Full k = k
        ends longer claimed.Spent k = tt
