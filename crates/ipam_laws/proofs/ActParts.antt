-- What the parts of a request call, by the trail that led there.
use Rattle.std.proofs.Common.{◌≡◌, ◌≢◌, ℕ, zero, suc, ◌+◌, Bool, true, false, cond, List, [], ◌∷◌, Option, Some, None, refl, sym, ap, ◌∙◌, subst}
use Rattle.std.specs.Prelude.{nat_le}
use Rattle.std.specs.List.{count_by}
use Rattle.ipam_addr.specs.Shape.{CidrValue}
use Rattle.ipam_block.specs.declared.record.Affinity.{Affinity}
use Rattle.ipam_block.specs.declared.state.State.{State}
use Rattle.ipam_block.specs.declared.state.State.TheVariants.{Pending, Confirmed, PendingDeletion}
use Rattle.ipam_block.specs.declared.allocation.Attributes.{Attributes}
use Rattle.ipam_block.specs.Shape.{BlockValue}
use Rattle.ipam_block.specs.Operations.{block_with_ordinal, block_without, next_block}
use Rattle.ipam_block.specs.HandleShape as handle
use Rattle.ipam_block.specs.HandleOperations.{count_of, with_lowered_count, with_raised_count}
use Rattle.ipam_records.specs.declared.call.Call.{Call}
use Rattle.ipam_records.specs.declared.call.Call.TheVariants.{Get, List as ListAll, Create, Update, Delete}
use Rattle.ipam_records.specs.declared.key.Key.TheVariants as key
use Rattle.ipam_records.specs.declared.record.Record.{Record}
use Rattle.ipam_records.specs.declared.record.Record.TheVariants as record_of
use Rattle.ipam_records.specs.Datastore.{Datastore, reply_of, reply_to_get, row_of}
use Rattle.ipam_records.specs.Key.{key_of}
use Rattle.ipam_records.specs.Label.{Credit, CallLabel, Nowhere, idle, owing}
use Rattle.ipam_records.specs.Said.{Said, Found, Missing, Listed, Can, Exists, Conflict, Full, Spent}
use Rattle.ipam_records.specs.Word.{Word, Ends}
use Rattle.ipam_model.specs.declared.outcome.ClaimAnswer.{ClaimAnswer}
use Rattle.ipam_model.specs.declared.outcome.ClaimAnswer.TheVariants as claimed
use Rattle.ipam_model.specs.declared.outcome.ReleaseAnswer.{ReleaseAnswer}
use Rattle.ipam_model.specs.Affinities.{BlockRead, Tie, affinity, baring, claim, claim_block, claim_confirm, claim_found, claim_kept, claiming, is_at_mark, on_claim_write, release_block, release_delete, release_found, release_look, release_once}
use Rattle.ipam_model.specs.AffinityLaw.{HasAt}
use Rattle.ipam_model.specs.Credits.{call_key_written}
use Rattle.ipam_model.specs.Named.{name_of}
use Rattle.ipam_model.specs.declared.entry.CallName.TheVariants as name
use Rattle.ipam_model.specs.declared.part.Assigned.{Assigned}
use Rattle.ipam_model.specs.Assigning.{Target, after_claim, after_confirmed, assign, assign_block, assign_lost, claim_for}
use Rattle.ipam_model.specs.Counting.{FreedOfHandle, credit_of, free, free_found, free_once, free_these, lower, lower_once, lowering, most_count, raise, raise_once, raise_write, revision_said, written_or_deleted}
use Rattle.ipam_model.specs.Reads.{affinity_said, block_said, handle_said}
use Rattle.ipam_model.specs.declared.part.Left.{Left}
use Rattle.ipam_model.specs.declared.part.Outcome.{Outcome}
use Rattle.ipam_model.specs.declared.part.Outcome.TheVariants.{Went, Stops}
use Rattle.ipam_model.specs.declared.part.Stop.TheVariants.{OutOfTries, NoRoom, CountAtLimit, NoRevisions}
use Rattle.ipam_model.specs.Step.{Part, after_lost, after_write, part_then, goes, left_of, onward, stops, tries, write_back}
use Rattle.ipam_laws.proofs.Acts.{Acts, Acts-bound, Later, Same, Since}
use Rattle.ipam_laws.proofs.BlockSteps.{IsNoBlock}
use Rattle.ipam_laws.proofs.Calls.{found-block, found-handle, found-key}
use Rattle.ipam_laws.proofs.DebtCalls.{Puts, back-puts, create-puts, update-puts}
use Rattle.ipam_laws.proofs.Trails.{AgreesAll, Did, Trail}

-- ---- calls

-- the call writes no block
abbrev pub IsApart : Call → Type 0
IsApart (Get key) = Unit {0}
IsApart (ListAll kind) = Unit {0}
IsApart (Create new) = IsNoBlock (key_of new)
IsApart (Update new revision) = IsNoBlock (key_of new)
IsApart (Delete key revision) = IsNoBlock key

-- where the block is there at this revision, it is this one
abbrev pub IsCurrent : Datastore → (revision : ℕ) → BlockValue → Type 0
IsCurrent store revision b = (found : Record) → HasAt store (key.Block b.cidr) revision found → found ≡ record_of.Block b

abbrev pub freeing_call : FreedOfHandle → BlockValue → ℕ → Call
freeing_call what b revision = Update (record_of.Block (block_without what.picks (next_block b))) revision

abbrev pub assigning_call : Attributes → Target → Call
assigning_call attributes target = Update (record_of.Block (block_with_ordinal (next_block target.block) target.ordinal attributes)) target.revision

-- whatever an answer is
abbrev pub Any : {A : Type 0} → Trail → A → Type 0
Any trail a = Unit {0}

-- ---- what a call writes

-- the call writes no row
abbrev pub IsRead : Call → Type 0
IsRead asked = call_key_written (name_of asked) ≡ None

-- it writes the record of this handle, or deletes it
abbrev pub IsOfHandle : List ℕ → Call → Type 0
IsOfHandle id asked = call_key_written (name_of asked) ≡ Some (key.Handle id)

-- where a block was read, it is this one at the revision that was read
abbrev pub WasRead : Datastore → CidrValue → BlockRead → Type 0
WasRead store cidr None = Unit {0}
WasRead store cidr (Some found) = (found.1.cidr ≡ cidr) × IsCurrent store found.0 found.1

-- A write of a claim: of the affinity, which is then not to be deleted, or of the block as it was read.
pub data ClaimCall (node : List ℕ) (cidr : CidrValue) (read : BlockRead) (label : CallLabel) (asked : Call) : Type 0 where
  OfAffinity : (state : State) → state ≢ PendingDeletion → Puts asked (record_of.Affinity (affinity node cidr state)) → ClaimCall node cidr read label asked
  OfBlock : label.point ≢ Nowhere → asked ≡ claiming node cidr read → ClaimCall node cidr read label asked

-- A write of a release: the mark, the block as it was read, or the deletion of the affinity.
pub data ReleaseCall (tie : Tie) (store : Datastore) (label : CallLabel) (asked : Call) : Type 0 where
  OfMark : Puts asked (record_of.Affinity (affinity tie.node tie.block PendingDeletion)) → ReleaseCall tie store label asked
  OfBared : (read : BlockRead) → label.point ≢ Nowhere → asked ≡ baring tie.node tie.block read → WasRead store tie.block read → ReleaseCall tie store label asked
  OfDeleted : (mark : ℕ) → asked ≡ Delete (key.Affinity tie.node tie.block) mark → ReleaseCall tie store label asked

-- the calls of a claim, in which no round begins
pub data InClaim (origin : Trail) : Trail → Type 0 where
  Begins : InClaim origin origin
  Goes : (moment : ℕ) (store : Datastore) (asked : Call) (longer : Trail) → name_of asked ≢ name.Get key.Config → InClaim origin longer
      → InClaim origin (Did moment store asked ∷ longer)

claiming-no_round : (node : List ℕ) (cidr : CidrValue) (read : BlockRead) → name_of (claiming node cidr read) ≢ name.Get key.Config
claiming-no_round node cidr None e = cc e
claiming-no_round node cidr (Some found) e = cc e

-- the handle that was read has the id
said-id : (store : Datastore) (id : List ℕ) → (handle_said id (reply_of store (Get (key.Handle id)))).id ≡ id
said-id store id = by (row_of (key.Handle id) store.rows) refl
  where
    by : (o : Option (ℕ × Record)) → row_of (key.Handle id) store.rows ≡ o → (handle_said id (reply_to_get o)).id ≡ id
    by None row = refl
    by (Some there) row =
        let (h, is, same) = found-handle id there.1 (found-key store (key.Handle id) there.0 there.1 row) in
        ap (λ (x : Record). (handle_said id (Found there.0 x)).id) is ∙ same

lowering-of : (h : handle.HandleValue) (counts : List (CidrValue × ℕ)) (revision : ℕ) → call_key_written (name_of (written_or_deleted h counts revision)) ≡ Some (key.Handle h.id)
lowering-of h [] revision = refl
lowering-of h (count ∷ counts) revision = refl

-- an address was assigned by a call of the trail
pub record DidAssign (attributes : Attributes) (target : Target) (trail : Trail) : Type 0 where
  pub moment : ℕ
  pub store : Datastore
  pub before : Trail
  pub since : Since (Did moment store (assigning_call attributes target) ∷ before) trail
  pub revision : ℕ
  pub done : reply_of store (assigning_call attributes target) ≡ Can revision
  pub current : IsCurrent store target.revision target.block

unfoldable pub AssignDone : Attributes → Target → Trail → Outcome (Option Assigned) → Type 0
AssignDone attributes target trail (Went left (Some done)) = DidAssign attributes target trail × (done.stamp ≡ target.block.sequence + 1)
AssignDone attributes target trail (Went left None) = Unit {0}
AssignDone attributes target trail (Stops left why) = Unit {0}

-- a block as it was read is current later
pub read-current : (moment : ℕ) (store later : Datastore) (trail : Trail) (cidr : CidrValue) (found : ℕ × BlockValue) → block_said (reply_to_get (row_of (key.Block cidr) store.rows)) ≡ Some found
    → AgreesAll later (Did moment store (Get (key.Block cidr)) ∷ trail) → (found.1.cidr ≡ cidr) × IsCurrent later found.0 found.1
unfolding AgreesAll
read-current moment store later trail cidr found e agrees = by (row_of (key.Block cidr) store.rows) refl e
  where
    by : (o : Option (ℕ × Record)) → row_of (key.Block cidr) store.rows ≡ o → block_said (reply_to_get o) ≡ Some found → (found.1.cidr ≡ cidr) × IsCurrent later found.0 found.1
    by None row f = absurd (cc f)
    by (Some there) row f =
        let (b, is, same) = found-block cidr there.1 (found-key store (key.Block cidr) there.0 there.1 row) in
        let said : Some (there.0, b) ≡ Some found = ap (λ (x : Record). block_said (Found there.0 x)) (sym is) ∙ f in
        let whole : (there.0, b) ≡ found = cc said in
        let at : HasAt store (key.Block cidr) there.0 (record_of.Block b) = row ∙ ap (λ (x : Record). Some (there.0, x)) is in
        let at_own : HasAt store (key.Block b.cidr) there.0 (record_of.Block b) = subst (λ (x : CidrValue). HasAt store (key.Block x) there.0 (record_of.Block b)) (sym same) at in
        let current : IsCurrent later there.0 b = λ one at_now. sym (agrees.0 (key.Block b.cidr) there.0 (record_of.Block b) one at_own at_now) in
        subst (λ (p : ℕ × BlockValue). (p.1.cidr ≡ cidr) × IsCurrent later p.0 p.1) whole (same, current)

module _ (May : Trail → Datastore → CallLabel → Call → Type 0) (reads : (trail : Trail) (store : Datastore) (label : CallLabel) (asked : Call) → IsRead asked → May trail store label asked) where
  pub wrote : {A : Type 0} → (Q : Trail → A → Type 0) (trail : Trail) (said reply : Said) (took : ℕ → Word A) (lost full spent : Word A) → said ≡ reply
      → ((revision : ℕ) → said ≡ Can revision → Acts May Q trail (took revision)) → Acts May Q trail lost → Acts May Q trail full → Acts May Q trail spent → Acts May Q trail (after_write reply took lost full spent)
  wrote Q trail said (Can revision) took lost full spent e a b c d = a revision e
  wrote Q trail said Missing took lost full spent e a b c d = b
  wrote Q trail said (Exists revision) took lost full spent e a b c d = b
  wrote Q trail said (Conflict revision) took lost full spent e a b c d = b
  wrote Q trail said Full took lost full spent e a b c d = c
  wrote Q trail said Spent took lost full spent e a b c d = d
  wrote Q trail said (Found revision found) took lost full spent e a b c d = b
  wrote Q trail said (Listed rows) took lost full spent e a b c d = b

  -- it acts so whatever the trail
  abbrev pub ActsAnyway : {A : Type 0} → Word A → Type 0
  ActsAnyway w = (trail : Trail) → Acts May Any trail w

  -- ---- counts

  -- the handle's record may be written whatever the trail
  abbrev pub MayCount : List ℕ → Type 0
  MayCount id = (trail : Trail) (store : Datastore) (label : CallLabel) (asked : Call) → IsOfHandle id asked → May trail store label asked

  raise-once : (id : List ℕ) (cidr : CidrValue) (again : Part (Unit {0})) (left : Left) → MayCount id → ActsAnyway again → ActsAnyway (raise_once id cidr again left)
  raise-once id cidr again left may h trail = λ moment store agrees.
      (reads trail store idle (Get (key.Handle id)) refl, by moment store (nat_le most_count (count_of (handle_said id (reply_of store (Get (key.Handle id)))) cidr)))
    where
      by : (moment : ℕ) (store : Datastore) (b : Bool) → Acts May Any (Did moment store (Get (key.Handle id)) ∷ trail)
          (cond b (stops left (CountAtLimit moment)) (raise_write id cidr again left (reply_of store (Get (key.Handle id)))))
      by moment store true = tt
      by moment store false = λ second other agrees.
          let said = reply_of store (Get (key.Handle id)) in
          let new = record_of.Handle (with_raised_count (handle_said id said) cidr 1) in
          let asked = write_back said new in
          let longer = Did second other asked ∷ Did moment store (Get (key.Handle id)) ∷ trail in (
            may (Did moment store (Get (key.Handle id)) ∷ trail) other idle asked ((back-puts said new).writes ∙ ap (λ (i : List ℕ). Some (key.Handle i)) (said-id store id)),
            wrote Any longer (reply_of other asked) (reply_of other asked) (λ revision. goes left tt) again (stops left NoRoom) (stops left NoRevisions) refl (λ revision e. tt) (h longer) tt tt,
          )

  raise-tries : (id : List ℕ) (cidr : CidrValue) (races claims : ℕ) → MayCount id → ActsAnyway (tries (raise_once id cidr) races claims)
  unfolding tries
  raise-tries id cidr zero claims may = raise-once id cidr (stops (left_of zero claims) OutOfTries) (left_of zero claims) may (λ trail. tt)
  raise-tries id cidr (suc races) claims may = raise-once id cidr (tries (raise_once id cidr) races claims) (left_of (suc races) claims) may (raise-tries id cidr races claims may)

  lower-once : (credit : Credit) (again : Part (Unit {0})) (left : Left) → MayCount credit.handle → ActsAnyway again → ActsAnyway (lower_once credit again left)
  lower-once credit again left may h trail = λ moment store agrees.
      let get = Get (key.Handle credit.handle) in (
        reads trail store (owing credit) get refl,
        λ second other agrees_then.
            let said = reply_of store get in
            let less = with_lowered_count (handle_said credit.handle said) credit.block credit.amount in
            let asked = lowering less (revision_said said) in
            let longer = Did second other asked ∷ Did moment store get ∷ trail in (
              may (Did moment store get ∷ trail) other (owing credit) asked
                  (lowering-of less less.counts (revision_said said) ∙ ap (λ (i : List ℕ). Some (key.Handle i)) (said-id store credit.handle)),
              wrote Any longer (reply_of other asked) (reply_of other asked) (λ revision. goes left tt) again (stops left NoRoom) (stops left NoRevisions) refl (λ revision e. tt) (h longer) tt tt,
            ),
      )

  lower-tries : (credit : Credit) (races claims : ℕ) → MayCount credit.handle → ActsAnyway (tries (lower_once credit) races claims)
  unfolding tries
  lower-tries credit zero claims may = lower-once credit (stops (left_of zero claims) OutOfTries) (left_of zero claims) may (λ trail. tt)
  lower-tries credit (suc races) claims may = lower-once credit (tries (lower_once credit) races claims) (left_of (suc races) claims) may (lower-tries credit races claims may)

  -- a part that only goes on
  pub then-goes : {A B : Type 0} → (part : Part A) (follows : Left → A → Part B) → ActsAnyway part → ((left : Left) (a : A) → ActsAnyway (follows left a)) → ActsAnyway (part_then part follows)
  then-goes {A = A} part follows h k trail = Acts-bound May Any Any (onward follows) part trail (h trail) ends
    where
      ends : (longer : Trail) (outcome : Outcome A) → Since trail longer → Any longer outcome → Acts May Any longer (onward follows outcome)
      ends longer (Went left a) since any = k left a longer
      ends longer (Stops left why) since any = tt

  -- ---- freeing

  -- what may be freed after this trail, and counted off
  pub record MayFree (what : FreedOfHandle) (origin : Trail) : Type 0 where
    pub counts : MayCount what.handle
    pub frees : (trail : Trail) → Since origin trail → (store : Datastore) (b : BlockValue) (revision amount : ℕ) → b.cidr ≡ what.block → IsCurrent store revision b → count_by what.picks b.allocations ≡ suc amount
        → May trail store idle (freeing_call what b revision)

  free-these : (what : FreedOfHandle) (origin : Trail) (again : Part ℕ) (left : Left) (moment : ℕ) (store : Datastore) (trail : Trail) (found : ℕ × BlockValue) → MayFree what origin → Since origin trail
      → ((longer : Trail) → Since origin longer → Acts May Any longer again) → block_said (reply_of store (Get (key.Block what.block))) ≡ Some found
      → (amount : ℕ) → count_by what.picks found.1.allocations ≡ amount → Acts May Any (Did moment store (Get (key.Block what.block)) ∷ trail) (free_these what again left amount found)
  free-these what origin again left moment store trail found may since h e zero count = tt
  free-these what origin again left moment store trail found may since h e (suc more) count = λ second other agrees.
      let read = Did moment store (Get (key.Block what.block)) in
      let (same, current) = read-current moment store other trail what.block found e agrees in
      let asked = freeing_call what found.1 found.0 in
      let longer = Did second other asked ∷ read ∷ trail in (
        may.frees (read ∷ trail) (Later read trail since) other found.1 found.0 more same current count,
        wrote Any longer (reply_of other asked) (reply_of other asked)
            (λ taken. part_then (lower (credit_of what.handle what.block (suc more)) left) (λ now done. goes now (suc more))) again (stops left NoRoom) (stops left NoRevisions) refl
            (λ revision f. then-goes (lower (credit_of what.handle what.block (suc more)) left) (λ now done. goes now (suc more)) (lower-tries (credit_of what.handle what.block (suc more)) left.races left.claims may.counts) (λ now done t. tt) longer)
            (h longer (Later (Did second other asked) (read ∷ trail) (Later read trail since))) tt tt,
      )

  free-once : (what : FreedOfHandle) (origin : Trail) (again : Part ℕ) (left : Left) → MayFree what origin → ((longer : Trail) → Since origin longer → Acts May Any longer again) → (trail : Trail) → Since origin trail → Acts May Any trail (free_once what again left)
  free-once what origin again left may h trail since = λ moment store agrees.
      (reads trail store idle (Get (key.Block what.block)) refl, by moment store (block_said (reply_of store (Get (key.Block what.block)))) refl)
    where
      by : (moment : ℕ) (store : Datastore) (o : Option (ℕ × BlockValue)) → block_said (reply_of store (Get (key.Block what.block))) ≡ o → Acts May Any (Did moment store (Get (key.Block what.block)) ∷ trail) (free_found what again left o)
      by moment store None e = tt
      by moment store (Some found) e = free-these what origin again left moment store trail found may since h e (count_by what.picks found.1.allocations) refl

  free-tries : (what : FreedOfHandle) (origin : Trail) (races claims : ℕ) → MayFree what origin → (trail : Trail) → Since origin trail → Acts May Any trail (tries (free_once what) races claims)
  unfolding tries
  free-tries what origin zero claims may = free-once what origin (stops (left_of zero claims) OutOfTries) (left_of zero claims) may (λ longer since. tt)
  free-tries what origin (suc races) claims may = free-once what origin (tries (free_once what) races claims) (left_of (suc races) claims) may (free-tries what origin races claims may)

  pub free-acts : (what : FreedOfHandle) (left : Left) (origin : Trail) → MayFree what origin → Acts May Any origin (free what left)
  free-acts what left origin may = free-tries what origin left.races left.claims may origin Same

  -- ---- a claim

  claim-write : (trail : Trail) (said : Said) (took : ℕ → Word ClaimAnswer) → ((revision : ℕ) → Acts May Any trail (took revision)) → Acts May Any trail (on_claim_write said took)
  claim-write trail said took h = wrote Any trail said said took (Ends claimed.Lost) (Ends claimed.Full) (Ends claimed.Spent) refl (λ revision e. h revision) tt tt tt

  -- what a claim may write after this trail
  abbrev pub MayClaim : List ℕ → CidrValue → BlockRead → Trail → Type 0
  MayClaim node cidr read origin =
      (trail : Trail) → InClaim origin trail → (store : Datastore) (label : CallLabel) (asked : Call) → AgreesAll store trail → ClaimCall node cidr read label asked → May trail store label asked

  module _ (node : List ℕ) (cidr : CidrValue) (read : BlockRead) (origin : Trail) (may : MayClaim node cidr read origin) where
    claim-block : (kept : ℕ) (trail : Trail) → InClaim origin trail → Acts May Any trail (claim_block node cidr read kept)
    claim-block kept trail within = λ moment store agrees.
        let asked = claiming node cidr read in (
          may trail within store _ asked agrees (OfBlock (λ e. cc e) refl),
          claim-write (Did moment store asked ∷ trail) (reply_of store asked) (λ revision. claim_confirm node cidr kept) (λ revision second other agrees_then.
              let confirm = Update (record_of.Affinity (affinity node cidr Confirmed)) kept in (
                may (Did moment store asked ∷ trail) (Goes moment store asked trail (claiming-no_round node cidr read) within) other _ confirm agrees_then
                    (OfAffinity Confirmed (λ e. cc e) (update-puts (record_of.Affinity (affinity node cidr Confirmed)) kept)),
                claim-write (Did second other confirm ∷ Did moment store asked ∷ trail) (reply_of other confirm) (λ taken. Ends claimed.Confirmed) (λ taken. tt),
              )),
        )

    claim-kept : (revision : ℕ) (state : State) (trail : Trail) → InClaim origin trail → Acts May Any trail (claim_kept node cidr read revision state)
    claim-kept revision PendingDeletion trail within = λ moment store agrees.
        let asked = Update (record_of.Affinity (affinity node cidr Pending)) revision in (
          may trail within store idle asked agrees (OfAffinity Pending (λ e. cc e) (update-puts (record_of.Affinity (affinity node cidr Pending)) revision)),
          claim-write (Did moment store asked ∷ trail) (reply_of store asked) (claim_block node cidr read) (λ kept. claim-block kept (Did moment store asked ∷ trail) (Goes moment store asked trail (λ e. cc e) within)),
        )
    claim-kept revision Pending trail within = claim-block revision trail within
    claim-kept revision Confirmed trail within = claim-block revision trail within

    claim-found : (found : Option (ℕ × Affinity)) (trail : Trail) → InClaim origin trail → Acts May Any trail (claim_found node cidr read found)
    claim-found None trail within = λ moment store agrees.
        let asked = Create (record_of.Affinity (affinity node cidr Pending)) in (
          may trail within store idle asked agrees (OfAffinity Pending (λ e. cc e) (create-puts (record_of.Affinity (affinity node cidr Pending)))),
          claim-write (Did moment store asked ∷ trail) (reply_of store asked) (claim_block node cidr read) (λ kept. claim-block kept (Did moment store asked ∷ trail) (Goes moment store asked trail (λ e. cc e) within)),
        )
    claim-found (Some found) trail within = claim-kept found.0 found.1.state trail within

    claim-acts : Acts May Any origin (claim node cidr read)
    unfolding claim
    claim-acts = λ moment store agrees.
        let asked = Get (key.Affinity node cidr) in
        (reads origin store idle asked refl, claim-found (affinity_said (reply_of store asked)) (Did moment store asked ∷ origin) (Goes moment store asked origin (λ e. cc e) Begins))

  pub claim_for-acts : (node : List ℕ) (cidr : CidrValue) (read : BlockRead) (left : Left) (trail : Trail) → MayClaim node cidr read trail → Acts May Any trail (claim_for node cidr read left)
  claim_for-acts node cidr read left trail may = Acts-bound May Any Any (after_claim left) (claim node cidr read) trail (claim-acts node cidr read trail may) (λ longer answer since any. ends longer answer)
    where
      confirmed : (longer : Trail) (races claims : ℕ) → Acts May Any longer (after_confirmed races claims)
      confirmed longer races zero = tt
      confirmed longer races (suc claims) = tt

      lost : (longer : Trail) (races claims : ℕ) → Acts May Any longer (after_lost races claims (λ less. goes {A = Unit {0}} less tt))
      lost longer zero claims = tt
      lost longer (suc races) claims = tt

      ends : (longer : Trail) (answer : ClaimAnswer) → Acts May Any longer (after_claim left answer)
      ends longer claimed.Confirmed = confirmed longer left.races left.claims
      ends longer claimed.Lost = lost longer left.races left.claims
      ends longer claimed.Full = tt
      ends longer claimed.Spent = tt

  -- ---- a release

  -- what a release may write whatever the trail
  abbrev pub MayRelease : Tie → Type 0
  MayRelease tie = (trail : Trail) (store : Datastore) (label : CallLabel) (asked : Call) → ReleaseCall tie store label asked → May trail store label asked

  module _ (tie : Tie) (may : MayRelease tie) where
    release-delete : (again : Part ReleaseAnswer) (left : Left) (mark : ℕ) → ActsAnyway again → ActsAnyway (release_delete tie again left mark)
    release-delete again left mark h trail = λ moment store agrees.
        let asked = Delete (key.Affinity tie.node tie.block) mark in
        let longer = Did moment store asked ∷ trail in (
          may trail store _ asked (OfDeleted mark refl),
          wrote Any longer (reply_of store asked) (reply_of store asked) _ again (stops left NoRoom) (stops left NoRevisions) refl (λ revision e. tt) (h longer) tt tt,
        )

    release-block : (again : Part ReleaseAnswer) (left : Left) (mark : ℕ) (read : BlockRead) → ActsAnyway again → (trail : Trail) → ((store : Datastore) → AgreesAll store trail → WasRead store tie.block read) → Acts May Any trail (release_block tie again left mark read)
    release-block again left mark read h trail was = λ moment store agrees.
        let asked = baring tie.node tie.block read in
        let longer = Did moment store asked ∷ trail in (
          may trail store _ asked (OfBared read (λ e. cc e) refl (was store agrees)),
          wrote Any longer (reply_of store asked) (reply_of store asked) (λ revision. release_delete tie again left mark) again (stops left NoRoom) (stops left NoRevisions) refl
              (λ revision e. release-delete again left mark h longer) (h longer) tt tt,
        )

    release-look : (again : Part ReleaseAnswer) (left : Left) (mark : ℕ) → ActsAnyway again → ActsAnyway (release_look tie again left mark)
    unfolding AgreesAll
    release-look again left mark h trail = λ moment store agrees.
        let block = Get (key.Block tie.block) in
        let look = Get (key.Affinity tie.node tie.block) in (
          reads trail store idle block refl,
          λ second other agrees_then. (
            reads (Did moment store block ∷ trail) other idle look refl,
            by (Did second other look ∷ Did moment store block ∷ trail) (block_said (reply_of store block)) (is_at_mark mark (affinity_said (reply_of other look)))
                (λ later now. was-read moment store later trail (block_said (reply_of store block)) refl now.1),
          ),
        )
      where
        was-read : (moment : ℕ) (store later : Datastore) (trail : Trail) (read : BlockRead) → block_said (reply_of store (Get (key.Block tie.block))) ≡ read → AgreesAll later (Did moment store (Get (key.Block tie.block)) ∷ trail) → WasRead later tie.block read
        was-read moment store later trail None e agrees = tt
        was-read moment store later trail (Some found) e agrees = read-current moment store later trail tie.block found e agrees

        by : (longer : Trail) (read : BlockRead) (b : Bool) → ((store : Datastore) → AgreesAll store longer → WasRead store tie.block read) → Acts May Any longer (cond b (release_block tie again left mark read) again)
        by longer read true was = release-block again left mark read h longer was
        by longer read false was = h longer

    release-found : (again : Part ReleaseAnswer) (left : Left) (moment : ℕ) (found : Option (ℕ × Affinity)) → ActsAnyway again → ActsAnyway (release_found tie again left moment found)
    release-found again left moment None h trail = tt
    release-found again left moment (Some found) h trail = λ second store agrees.
        let asked = Update (record_of.Affinity (affinity tie.node tie.block PendingDeletion)) found.0 in
        let longer = Did second store asked ∷ trail in (
          may trail store idle asked (OfMark (update-puts (record_of.Affinity (affinity tie.node tie.block PendingDeletion)) found.0)),
          wrote Any longer (reply_of store asked) (reply_of store asked) (release_look tie again left) again (stops left NoRoom) (stops left NoRevisions) refl
              (λ revision e. release-look again left revision h longer) (h longer) tt tt,
        )

    release-once : (again : Part ReleaseAnswer) (left : Left) → ActsAnyway again → ActsAnyway (release_once tie again left)
    release-once again left h trail = λ moment store agrees.
        let asked = Get (key.Affinity tie.node tie.block) in
        (reads trail store idle asked refl, release-found again left moment (affinity_said (reply_of store asked)) h (Did moment store asked ∷ trail))

    pub release-tries : (races claims : ℕ) → ActsAnyway (tries (release_once tie) races claims)
    unfolding tries
    release-tries zero claims = release-once (stops (left_of zero claims) OutOfTries) (left_of zero claims) (λ trail. tt)
    release-tries (suc races) claims = release-once (tries (release_once tie) races claims) (left_of (suc races) claims) (release-tries races claims)

  -- ---- assigning

  -- what may be assigned after this trail
  pub record MayAssign (attributes : Attributes) (target : Target) (origin : Trail) : Type 0 where
    pub counts : MayCount attributes.handle
    pub current : (trail : Trail) → Since origin trail → (store : Datastore) → AgreesAll store trail → IsCurrent store target.revision target.block
    pub may : (trail : Trail) (store : Datastore) → IsCurrent store target.revision target.block → May trail store (owing (credit_of attributes.handle target.block.cidr 1)) (assigning_call attributes target)

  assign-lost : (attributes : Attributes) (target : Target) (races claims : ℕ) (trail : Trail) → MayCount attributes.handle → Acts May (AssignDone attributes target) trail (after_lost races claims (λ less. part_then (lower (credit_of attributes.handle target.block.cidr 1) less) (λ now done. goes now None)))
  unfolding AssignDone
  assign-lost attributes target zero claims trail may = tt
  assign-lost attributes target (suc races) claims trail may =
      Acts-bound May Any (AssignDone attributes target) (onward (λ now done. goes now None)) (lower (credit_of attributes.handle target.block.cidr 1) (left_of races claims)) trail
      (lower-tries (credit_of attributes.handle target.block.cidr 1) races claims may trail) (λ longer outcome since any. ends longer outcome)
    where
      ends : (longer : Trail) (outcome : Outcome (Unit {0})) → Acts May (AssignDone attributes target) longer (onward (λ now done. goes now None) outcome)
      ends longer (Went now done) = tt
      ends longer (Stops now why) = tt

  assign-block : (attributes : Attributes) (target : Target) (origin : Trail) (left : Left) → MayAssign attributes target origin → (trail : Trail) → Since origin trail → Acts May (AssignDone attributes target) trail (assign_block attributes target left)
  unfolding AssignDone
  assign-block attributes target origin left may trail since = λ moment store agrees.
      let asked = assigning_call attributes target in
      let current = may.current trail since store agrees in
      let longer = Did moment store asked ∷ trail in (
        may.may trail store current,
        wrote (AssignDone attributes target) longer (reply_of store asked) (reply_of store asked) _ (assign_lost attributes target left) (stops left NoRoom) (stops left NoRevisions) refl
            (λ revision e. (
              record {
                moment = moment;
                store = store;
                before = trail;
                since = Same;
                revision = revision;
                done = e;
                current = current;
              },
              refl,
            ))
            (assign-lost attributes target left.races left.claims longer may.counts) tt tt,
      )

  pub assign-acts : (attributes : Attributes) (target : Target) (origin : Trail) (left : Left) → MayAssign attributes target origin → Acts May (AssignDone attributes target) origin (assign attributes target left)
  unfolding AssignDone
  assign-acts attributes target origin left may =
      Acts-bound May Any (AssignDone attributes target) (onward (λ now done. assign_block attributes target now)) (raise attributes.handle target.block.cidr left) origin
      (raise-tries attributes.handle target.block.cidr left.races left.claims may.counts origin) ends
    where
      ends : (longer : Trail) (outcome : Outcome (Unit {0})) → Since origin longer → Any longer outcome → Acts May (AssignDone attributes target) longer (onward (λ now done. assign_block attributes target now) outcome)
      ends longer (Went now done) since any = assign-block attributes target origin now may longer since
      ends longer (Stops now why) since any = tt
