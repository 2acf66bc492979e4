-- What the parts of an ADD come to, by the trail that led to it.
use Rattle.std.proofs.Common.{◌≡◌, ◌≢◌, ℕ, zero, suc, ◌+◌, Bool, true, false, cond, List, [], ◌∷◌, Option, Some, None, refl, arith}
use Rattle.std.specs.Prelude.{nat_le}
use Rattle.std.specs.List.{count_by}
use Rattle.ipam_addr.specs.declared.address.Family.{Family}
use Rattle.ipam_addr.specs.Shape.{CidrValue}
use Rattle.ipam_block.specs.declared.record.Affinity.{Affinity}
use Rattle.ipam_block.specs.declared.state.State.{State}
use Rattle.ipam_block.specs.declared.state.State.TheVariants.{Pending, Confirmed, PendingDeletion}
use Rattle.ipam_block.specs.declared.allocation.Attributes.{Attributes}
use Rattle.ipam_block.specs.Shape as block
use Rattle.ipam_block.specs.Operations.{affine_to, block_with_ordinal, block_without, fresh_block, next_block}
use Rattle.ipam_block.specs.HandleShape as handle
use Rattle.ipam_block.specs.HandleOperations.{count_of, with_lowered_count, with_raised_count}
use Rattle.ipam_records.specs.declared.call.Call.{Call}
use Rattle.ipam_records.specs.declared.call.Call.TheVariants.{Get, Create, Update, Delete}
use Rattle.ipam_records.specs.declared.key.Key.TheVariants as key
use Rattle.ipam_records.specs.declared.record.Record.{Record}
use Rattle.ipam_records.specs.declared.record.Record.TheVariants as record_of
use Rattle.ipam_records.specs.Datastore.{Datastore, reply_of}
use Rattle.ipam_records.specs.Label.{Credit}
use Rattle.ipam_records.specs.Said.{Said, Found, Missing, Listed, Can, Exists, Conflict, Full, Spent}
use Rattle.ipam_records.specs.Word.{Word, Ends}
use Rattle.ipam_model.specs.declared.outcome.ClaimAnswer.{ClaimAnswer}
use Rattle.ipam_model.specs.declared.outcome.ClaimAnswer.TheVariants as claimed
use Rattle.ipam_model.specs.Affinities.{BlockRead, affinity, claim, claim_block, claim_confirm, claim_found, claim_kept, claiming, on_claim_write}
use Rattle.ipam_model.specs.AffinityLaw.{HasAt}
use Rattle.ipam_model.specs.declared.part.Assigned.{Assigned}
use Rattle.ipam_model.specs.Assigning.{Target, after_claim, after_confirmed, assign, assign_block, assign_lost, claim_for}
use Rattle.ipam_model.specs.Counting.{FreedOfHandle, credit_of, free, free_found, free_once, free_these, lower, lower_once, lowering, most_count, raise, raise_once, raise_write, revision_said, written_or_deleted}
use Rattle.ipam_model.specs.declared.entry.CallName.TheVariants as name
use Rattle.ipam_model.specs.Named.{name_of}
use Rattle.ipam_model.specs.Reads.{affinity_said, block_said, handle_said}
use Rattle.ipam_model.specs.declared.part.Left.{Left}
use Rattle.ipam_model.specs.declared.part.Outcome.{Outcome}
use Rattle.ipam_model.specs.declared.part.Stop.{Stop}
use Rattle.ipam_model.specs.declared.part.Stop.TheVariants.{OutOfTries, OutOfClaims, NoRoom, CountAtLimit, NoRevisions}
use Rattle.ipam_model.specs.declared.part.Outcome.TheVariants.{Went, Stops}
use Rattle.ipam_model.specs.Step.{Part, after_lost, after_write, part_then, goes, left_of, on_write, onward, stops, tries, write_back}
use Rattle.ipam_laws.proofs.Trails.{AgreesAll, Comes, Comes-bound, Did, Trail}
use Rattle.ipam_laws.proofs.AddTrails.{IsGift, IsQuiet, Knows, More, Quietly, Same, Undone, assign-gives, assign-only, create-quiet, knows-did, not-block, quietly-knows, update-quiet}

-- ---- what follows a write

pub after-write : {A : Type 0} → (Q : Trail → A → Type 0) (trail : Trail) (said reply : Said) (took : ℕ → Word A) (lost full spent : Word A) → said ≡ reply
    → ((revision : ℕ) → said ≡ Can revision → Comes Q trail (took revision)) → Comes Q trail lost → Comes Q trail full → Comes Q trail spent → Comes Q trail (after_write reply took lost full spent)
after-write Q trail said (Can revision) took lost full spent e a b c d = a revision e
after-write Q trail said Missing took lost full spent e a b c d = b
after-write Q trail said (Exists revision) took lost full spent e a b c d = b
after-write Q trail said (Conflict revision) took lost full spent e a b c d = b
after-write Q trail said Full took lost full spent e a b c d = c
after-write Q trail said Spent took lost full spent e a b c d = d
after-write Q trail said (Found revision found) took lost full spent e a b c d = b
after-write Q trail said (Listed rows) took lost full spent e a b c d = b

-- a stop that is not for want of a count
unfoldable pub NotLimit : Stop → Type 0
NotLimit OutOfTries = Unit {0}
NotLimit OutOfClaims = Unit {0}
NotLimit NoRoom = Unit {0}
NotLimit (CountAtLimit moment) = ⊥
NotLimit NoRevisions = Unit {0}

-- a part that goes on quietly, or stops otherwise
unfoldable pub GoesQuietly : {A : Type 0} → Trail → Trail → Outcome A → Type 0
GoesQuietly origin trail (Went left a) = Quietly origin trail
GoesQuietly origin trail (Stops left why) = NotLimit why × Quietly origin trail

-- a part that stops otherwise
unfoldable pub StopsOtherwise : {A : Type 0} → Trail → Outcome A → Type 0
StopsOtherwise trail (Went left a) = Unit {0}
StopsOtherwise trail (Stops left why) = NotLimit why

-- the handle was read at the moment, quietly after the trail, and last, and its count was at its limit
pub record ReadLast (origin : Trail) (id : List ℕ) (cidr : CidrValue) (moment : ℕ) (trail : Trail) : Type 0 where
  pub store : Datastore
  pub between : Trail
  pub quiet : Quietly origin between
  pub is : trail ≡ Did moment store (Get (key.Handle id)) ∷ between
  pub limit : nat_le most_count (count_of (handle_said id (reply_of store (Get (key.Handle id)))) cidr) ≡ true

-- ---- raising

unfoldable pub RaiseEnds : {A : Type 0} → List ℕ → CidrValue → Trail → Trail → Outcome A → Type 0
RaiseEnds id cidr origin trail (Went left a) = Quietly origin trail
RaiseEnds id cidr origin trail (Stops left (CountAtLimit moment)) = ReadLast origin id cidr moment trail
RaiseEnds id cidr origin trail (Stops left why) = Quietly origin trail

get-quiet : (store : Datastore) (id : List ℕ) → IsQuiet store (Get (key.Handle id))
get-quiet store id = not-block store (Get (key.Handle id)) (λ e. cc e) (λ cidr e. cc e)

write-quiet : (store : Datastore) (said : Said) (h : handle.HandleValue) → IsQuiet store (write_back said (record_of.Handle h))
write-quiet store (Found revision found) h = not-block store (Update (record_of.Handle h) revision) (λ e. cc e) (λ cidr e. cc e)
write-quiet store Missing h = not-block store (Create (record_of.Handle h)) (λ e. cc e) (λ cidr e. cc e)
write-quiet store (Listed rows) h = not-block store (Create (record_of.Handle h)) (λ e. cc e) (λ cidr e. cc e)
write-quiet store (Can revision) h = not-block store (Create (record_of.Handle h)) (λ e. cc e) (λ cidr e. cc e)
write-quiet store (Exists revision) h = not-block store (Create (record_of.Handle h)) (λ e. cc e) (λ cidr e. cc e)
write-quiet store (Conflict revision) h = not-block store (Create (record_of.Handle h)) (λ e. cc e) (λ cidr e. cc e)
write-quiet store Full h = not-block store (Create (record_of.Handle h)) (λ e. cc e) (λ cidr e. cc e)
write-quiet store Spent h = not-block store (Create (record_of.Handle h)) (λ e. cc e) (λ cidr e. cc e)

-- whatever a try begins with, what begins again comes to this
abbrev Again : {A : Type 0} → (Q : Trail → Trail → Outcome A → Type 0) → Trail → Part A → Type 0
Again Q origin again = (trail : Trail) → Quietly origin trail → Comes (Q origin) trail again

raise-once : (id : List ℕ) (cidr : CidrValue) (origin : Trail) (again : Part (Unit {0})) (left : Left) → Again (RaiseEnds id cidr) origin again → Again (RaiseEnds id cidr) origin (raise_once id cidr again left)
unfolding RaiseEnds
raise-once id cidr origin again left h trail quiet = λ moment store agrees.
    by moment store (nat_le most_count (count_of (handle_said id (reply_of store (Get (key.Handle id)))) cidr)) refl
  where
    by : (moment : ℕ) (store : Datastore) (b : Bool) → nat_le most_count (count_of (handle_said id (reply_of store (Get (key.Handle id)))) cidr) ≡ b → Comes (RaiseEnds id cidr origin) (Did moment store (Get (key.Handle id)) ∷ trail)
        (cond b (stops left (CountAtLimit moment)) (raise_write id cidr again left (reply_of store (Get (key.Handle id)))))
    by moment store true e = record { store = store; between = trail; quiet = quiet; is = refl; limit = e }
    by moment store false e = λ second other agrees.
        let said = reply_of store (Get (key.Handle id)) in
        let asked = write_back said (record_of.Handle (with_raised_count (handle_said id said) cidr 1)) in
        let behind = More second other asked (Did moment store (Get (key.Handle id)) ∷ trail) (write-quiet other said (with_raised_count (handle_said id said) cidr 1))
        (More moment store (Get (key.Handle id)) trail (get-quiet store id) quiet) in
        after-write (RaiseEnds id cidr origin) (Did second other asked ∷ Did moment store (Get (key.Handle id)) ∷ trail) (reply_of other asked) (reply_of other asked)
        (λ revision. goes left tt) again (stops left NoRoom) (stops left NoRevisions) refl
        (λ revision e. behind) (h (Did second other asked ∷ Did moment store (Get (key.Handle id)) ∷ trail) behind) behind behind

raise-tries : (id : List ℕ) (cidr : CidrValue) (origin : Trail) (races claims : ℕ) → Again (RaiseEnds id cidr) origin (tries (raise_once id cidr) races claims)
unfolding tries RaiseEnds
raise-tries id cidr origin zero claims = raise-once id cidr origin (stops (left_of zero claims) OutOfTries) (left_of zero claims) (λ trail quiet. quiet)
raise-tries id cidr origin (suc races) claims = raise-once id cidr origin (tries (raise_once id cidr) races claims) (left_of (suc races) claims) (raise-tries id cidr origin races claims)

-- ---- lowering

lowering-quiet : (store : Datastore) (h : handle.HandleValue) (counts : List (CidrValue × ℕ)) (revision : ℕ) → IsQuiet store (written_or_deleted h counts revision)
lowering-quiet store h [] revision = not-block store (Delete (key.Handle h.id) revision) (λ e. cc e) (λ cidr e. cc e)
lowering-quiet store h (count ∷ counts) revision = not-block store (Update (record_of.Handle h) revision) (λ e. cc e) (λ cidr e. cc e)

lower-once : (credit : Credit) (origin : Trail) (again : Part (Unit {0})) (left : Left) → Again GoesQuietly origin again → Again GoesQuietly origin (lower_once credit again left)
unfolding GoesQuietly NotLimit
lower-once credit origin again left h trail quiet = λ moment store agrees second other agrees_then.
    let said = reply_of store (Get (key.Handle credit.handle)) in
    let less = with_lowered_count (handle_said credit.handle said) credit.block credit.amount in
    let asked = lowering less (revision_said said) in
    let behind = More second other asked (Did moment store (Get (key.Handle credit.handle)) ∷ trail) (lowering-quiet other less less.counts (revision_said said))
    (More moment store (Get (key.Handle credit.handle)) trail (get-quiet store credit.handle) quiet) in
    after-write (GoesQuietly origin) (Did second other asked ∷ Did moment store (Get (key.Handle credit.handle)) ∷ trail) (reply_of other asked) (reply_of other asked)
    (λ revision. goes left tt) again (stops left NoRoom) (stops left NoRevisions) refl
    (λ revision e. behind) (h (Did second other asked ∷ Did moment store (Get (key.Handle credit.handle)) ∷ trail) behind) (tt, behind) (tt, behind)

pub lower-tries : (credit : Credit) (origin : Trail) (races claims : ℕ) → Again GoesQuietly origin (tries (lower_once credit) races claims)
unfolding tries GoesQuietly NotLimit
lower-tries credit origin zero claims = lower-once credit origin (stops (left_of zero claims) OutOfTries) (left_of zero claims) (λ trail quiet. (tt, quiet))
lower-tries credit origin (suc races) claims = lower-once credit origin (tries (lower_once credit) races claims) (left_of (suc races) claims) (lower-tries credit origin races claims)

-- ---- freeing

free-these : (what : FreedOfHandle) (again : Part ℕ) (left : Left) (amount : ℕ) (found : ℕ × block.BlockValue) → ((trail : Trail) → Comes StopsOtherwise trail again) → (trail : Trail) → Comes StopsOtherwise trail (free_these what again left amount found)
unfolding StopsOtherwise NotLimit GoesQuietly
free-these what again left zero found h trail = tt
free-these what again left (suc more) found h trail = λ moment store agrees.
    let asked = Update (record_of.Block (block_without what.picks (next_block found.1))) found.0 in
    let longer = Did moment store asked ∷ trail in
    after-write StopsOtherwise longer (reply_of store asked) (reply_of store asked)
    (λ taken. part_then (lower (credit_of what.handle what.block (suc more)) left) (λ now done. goes now (suc more))) again (stops left NoRoom) (stops left NoRevisions) refl
    (λ revision e. lowers longer (credit_of what.handle what.block (suc more)))
    (h longer) tt tt
  where
    lowers : (longer : Trail) (credit : Credit) → Comes StopsOtherwise longer (part_then (lower credit left) (λ now done. goes now (suc more)))
    lowers longer credit =
        Comes-bound (GoesQuietly longer) StopsOtherwise (onward (λ now done. goes now (suc more))) (lower credit left) longer (lower-tries credit longer left.races left.claims longer Same) ends
      where
        ends : (further : Trail) (outcome : Outcome (Unit {0})) → GoesQuietly longer further outcome → Comes StopsOtherwise further (onward (λ now done. goes now (suc more)) outcome)
        ends further (Went now done) k = tt
        ends further (Stops now why) k = k.0

free-found : (what : FreedOfHandle) (again : Part ℕ) (left : Left) (found : Option (ℕ × block.BlockValue)) → ((trail : Trail) → Comes StopsOtherwise trail again) → (trail : Trail) → Comes StopsOtherwise trail (free_found what again left found)
unfolding StopsOtherwise
free-found what again left None h trail = tt
free-found what again left (Some found) h trail = free-these what again left (count_by what.picks found.1.allocations) found h trail

free-once : (what : FreedOfHandle) (again : Part ℕ) (left : Left) → ((trail : Trail) → Comes StopsOtherwise trail again) → (trail : Trail) → Comes StopsOtherwise trail (free_once what again left)
free-once what again left h trail = λ moment store agrees.
    free-found what again left (block_said (reply_of store (Get (key.Block what.block)))) h (Did moment store (Get (key.Block what.block)) ∷ trail)

free-tries : (what : FreedOfHandle) (races claims : ℕ) (trail : Trail) → Comes StopsOtherwise trail (tries (free_once what) races claims)
unfolding tries StopsOtherwise NotLimit
free-tries what zero claims trail = free-once what (stops (left_of zero claims) OutOfTries) (left_of zero claims) (λ longer. tt) trail
free-tries what (suc races) claims trail = free-once what (tries (free_once what) races claims) (left_of (suc races) claims) (free-tries what races claims) trail

pub free-comes : (what : FreedOfHandle) (left : Left) (trail : Trail) → Comes StopsOtherwise trail (free what left)
free-comes what left trail = free-tries what left.races left.claims trail

-- ---- a claim

abbrev pub KnowsRead : Trail → BlockRead → Type 0
KnowsRead trail None = Unit {0}
KnowsRead trail (Some found) = Knows trail found.0 found.1

knows-read-did : (trail : Trail) (read : BlockRead) (moment : ℕ) (store : Datastore) (asked : Call) → KnowsRead trail read → KnowsRead (Did moment store asked ∷ trail) read
knows-read-did trail None moment store asked h = tt
knows-read-did trail (Some found) moment store asked h = knows-did trail found.0 found.1 moment store asked h

abbrev IsQuietEnd : Trail → Trail → ClaimAnswer → Type 0
IsQuietEnd origin trail answer = Quietly origin trail

claim-write : (origin trail : Trail) (said : Said) (took : ℕ → Word ClaimAnswer) → Quietly origin trail → ((revision : ℕ) → said ≡ Can revision → Comes (IsQuietEnd origin) trail (took revision)) → Comes (IsQuietEnd origin) trail (on_claim_write said took)
claim-write origin trail said took quiet h =
    after-write (IsQuietEnd origin) trail said said took (Ends claimed.Lost) (Ends claimed.Full) (Ends claimed.Spent) refl h quiet quiet quiet

affinity-create-quiet : (store : Datastore) (a : Affinity) → IsQuiet store (Create (record_of.Affinity a))
affinity-create-quiet store a = not-block store (Create (record_of.Affinity a)) (λ e. cc e) (λ cidr e. cc e)

affinity-update-quiet : (store : Datastore) (a : Affinity) (revision : ℕ) → IsQuiet store (Update (record_of.Affinity a) revision)
affinity-update-quiet store a revision = not-block store (Update (record_of.Affinity a) revision) (λ e. cc e) (λ cidr e. cc e)

claiming-quiet : (store : Datastore) (trail : Trail) (node : List ℕ) (cidr : CidrValue) (read : BlockRead) → AgreesAll store trail → KnowsRead trail read → IsQuiet store (claiming node cidr read)
claiming-quiet store trail node cidr None agrees knows = create-quiet store (fresh_block cidr (Some node)) refl
claiming-quiet store trail node cidr (Some found) agrees knows = update-quiet store trail found.1 (affine_to (Some node) (next_block found.1)) found.0 agrees knows refl (omega arith) (λ a there. there)

claim-confirm : (origin trail : Trail) (node : List ℕ) (cidr : CidrValue) (kept : ℕ) → Quietly origin trail → Comes (IsQuietEnd origin) trail (claim_confirm node cidr kept)
claim-confirm origin trail node cidr kept quiet = λ moment store agrees.
    let asked = Update (record_of.Affinity (affinity node cidr Confirmed)) kept in
    let behind = More moment store asked trail (affinity-update-quiet store (affinity node cidr Confirmed) kept) quiet in
    claim-write origin (Did moment store asked ∷ trail) (reply_of store asked) (λ revision. Ends claimed.Confirmed) behind (λ revision e. behind)

claim-block : (origin trail : Trail) (node : List ℕ) (cidr : CidrValue) (read : BlockRead) (kept : ℕ) → Quietly origin trail → KnowsRead trail read → Comes (IsQuietEnd origin) trail (claim_block node cidr read kept)
claim-block origin trail node cidr read kept quiet knows = λ moment store agrees.
    let asked = claiming node cidr read in
    let behind = More moment store asked trail (claiming-quiet store trail node cidr read agrees knows) quiet in
    claim-write origin (Did moment store asked ∷ trail) (reply_of store asked) (λ revision. claim_confirm node cidr kept) behind
    (λ revision e. claim-confirm origin (Did moment store asked ∷ trail) node cidr kept behind)

claim-kept : (origin trail : Trail) (node : List ℕ) (cidr : CidrValue) (read : BlockRead) (revision : ℕ) (state : State) → Quietly origin trail → KnowsRead trail read → Comes (IsQuietEnd origin) trail (claim_kept node cidr read revision state)
claim-kept origin trail node cidr read revision Pending quiet knows = claim-block origin trail node cidr read revision quiet knows
claim-kept origin trail node cidr read revision Confirmed quiet knows = claim-block origin trail node cidr read revision quiet knows
claim-kept origin trail node cidr read revision PendingDeletion quiet knows = λ moment store agrees.
    let asked = Update (record_of.Affinity (affinity node cidr Pending)) revision in
    let behind = More moment store asked trail (affinity-update-quiet store (affinity node cidr Pending) revision) quiet in
    claim-write origin (Did moment store asked ∷ trail) (reply_of store asked) (claim_block node cidr read) behind
    (λ kept e. claim-block origin (Did moment store asked ∷ trail) node cidr read kept behind (knows-read-did trail read moment store asked knows))

claim-found : (origin trail : Trail) (node : List ℕ) (cidr : CidrValue) (read : BlockRead) (found : Option (ℕ × Affinity)) → Quietly origin trail → KnowsRead trail read → Comes (IsQuietEnd origin) trail (claim_found node cidr read found)
claim-found origin trail node cidr read (Some found) quiet knows = claim-kept origin trail node cidr read found.0 found.1.state quiet knows
claim-found origin trail node cidr read None quiet knows = λ moment store agrees.
    let asked = Create (record_of.Affinity (affinity node cidr Pending)) in
    let behind = More moment store asked trail (affinity-create-quiet store (affinity node cidr Pending)) quiet in
    claim-write origin (Did moment store asked ∷ trail) (reply_of store asked) (claim_block node cidr read) behind
    (λ kept e. claim-block origin (Did moment store asked ∷ trail) node cidr read kept behind (knows-read-did trail read moment store asked knows))

claim-comes : (origin trail : Trail) (node : List ℕ) (cidr : CidrValue) (read : BlockRead) → Quietly origin trail → KnowsRead trail read → Comes (IsQuietEnd origin) trail (claim node cidr read)
unfolding claim
claim-comes origin trail node cidr read quiet knows = λ moment store agrees.
    let asked = Get (key.Affinity node cidr) in
    let behind = More moment store asked trail (not-block store asked (λ e. cc e) (λ other e. cc e)) quiet in
    claim-found origin (Did moment store asked ∷ trail) node cidr read (affinity_said (reply_of store asked)) behind (knows-read-did trail read moment store asked knows)

confirmed-ends : (origin longer : Trail) (races claims : ℕ) → Quietly origin longer → Comes (GoesQuietly {A = Unit {0}} origin) longer (after_confirmed races claims)
unfolding GoesQuietly NotLimit
confirmed-ends origin longer races zero k = (tt, k)
confirmed-ends origin longer races (suc claims) k = k

lost-ends : (origin longer : Trail) (races claims : ℕ) → Quietly origin longer → Comes (GoesQuietly {A = Unit {0}} origin) longer (after_lost races claims (λ less. goes {A = Unit {0}} less tt))
unfolding GoesQuietly NotLimit
lost-ends origin longer zero claims k = (tt, k)
lost-ends origin longer (suc races) claims k = k

pub claim-for : (origin trail : Trail) (node : List ℕ) (cidr : CidrValue) (read : BlockRead) (left : Left) → Quietly origin trail → KnowsRead trail read → Comes (GoesQuietly origin) trail (claim_for node cidr read left)
unfolding GoesQuietly NotLimit
claim-for origin trail node cidr read left quiet knows =
    Comes-bound (IsQuietEnd origin) (GoesQuietly origin) (after_claim left) (claim node cidr read) trail (claim-comes origin trail node cidr read quiet knows) ends
  where
    ends : (longer : Trail) (answer : ClaimAnswer) → Quietly origin longer → Comes (GoesQuietly origin) longer (after_claim left answer)
    ends longer claimed.Confirmed k = confirmed-ends origin longer left.races left.claims k
    ends longer claimed.Lost k = lost-ends origin longer left.races left.claims k
    ends longer claimed.Full k = (tt, k)
    ends longer claimed.Spent k = (tt, k)

-- ---- an address is assigned

-- the latest call gives an address of the family and of no other, quietly after the trail
pub record GivesLast (origin : Trail) (family : Family) (trail : Trail) : Type 0 where
  pub moment : ℕ
  pub store : Datastore
  pub asked : Call
  pub between : Trail
  pub quiet : Quietly origin between
  pub gift : IsGift store asked family
  pub only : (other : Family) → IsGift store asked other → other ≡ family
  pub is : trail ≡ Did moment store asked ∷ between

-- the latest call assigns the target, quietly after the trail
pub record AssignsLast (origin : Trail) (attributes : Attributes) (target : Target) (done : Assigned) (trail : Trail) : Type 0 where
  pub store : Datastore
  pub between : Trail
  pub quiet : Quietly origin between
  pub revision : ℕ
  pub is : trail ≡ Did done.moment store (Update (record_of.Block (block_with_ordinal (next_block target.block) target.ordinal attributes)) target.revision) ∷ between
  pub granted : reply_of store (Update (record_of.Block (block_with_ordinal (next_block target.block) target.ordinal attributes)) target.revision) ≡ Can revision
  pub current : (found : Record) → HasAt store (key.Block target.block.cidr) target.revision found → found ≡ record_of.Block target.block
  pub stamp : done.stamp ≡ target.block.sequence + 1

unfoldable pub AssignEnds : Trail → Attributes → Target → Trail → Outcome (Option Assigned) → Type 0
AssignEnds origin attributes target trail (Went left (Some done)) = GivesLast origin target.block.cidr.family trail × AssignsLast origin attributes target done trail
AssignEnds origin attributes target trail (Went left None) = Quietly origin trail
AssignEnds origin attributes target trail (Stops left (CountAtLimit moment)) = ReadLast origin attributes.handle target.block.cidr moment trail
AssignEnds origin attributes target trail (Stops left why) = Quietly origin trail

otherwise-ends : (origin : Trail) (attributes : Attributes) (target : Target) (trail : Trail) (left : Left) (why : Stop) → NotLimit why × Quietly origin trail → AssignEnds origin attributes target trail (Stops left why)
unfolding AssignEnds NotLimit
otherwise-ends origin attributes target trail left OutOfTries h = h.1
otherwise-ends origin attributes target trail left OutOfClaims h = h.1
otherwise-ends origin attributes target trail left NoRoom h = h.1
otherwise-ends origin attributes target trail left (CountAtLimit moment) h = absurd h.0
otherwise-ends origin attributes target trail left NoRevisions h = h.1

assign-lost : (origin trail : Trail) (attributes : Attributes) (target : Target) (left : Left) → Quietly origin trail → Comes (AssignEnds origin attributes target) trail (assign_lost attributes target left)
unfolding AssignEnds GoesQuietly
assign-lost origin trail attributes target left quiet = by left.races left.claims
  where
    credit : Credit
    credit = credit_of attributes.handle target.block.cidr 1

    ends : (longer : Trail) (outcome : Outcome (Unit {0})) → GoesQuietly origin longer outcome → Comes (AssignEnds origin attributes target) longer (onward (λ now done. goes now None) outcome)
    ends longer (Went now done) k = k
    ends longer (Stops now why) k = otherwise-ends origin attributes target longer now why k

    by : (races claims : ℕ) → Comes (AssignEnds origin attributes target) trail (after_lost races claims (λ less. part_then (lower credit less) (λ now done. goes now None)))
    by zero claims = quiet
    by (suc races) claims =
        Comes-bound (GoesQuietly origin) (AssignEnds origin attributes target) (onward (λ now done. goes now None)) (lower credit (left_of races claims)) trail
        (lower-tries credit origin races claims trail quiet) ends

-- a write that was not done is quiet
undone-quiet : (store : Datastore) (asked : Call) → name_of asked ≢ name.Get key.Config → ((revision : ℕ) → reply_of store asked ≢ Can revision) → IsQuiet store asked
undone-quiet store asked no_round not = record {
  gives_none = λ family gift. not gift.revision gift.done;
  no_round = no_round;
  calm = Undone not;
}

assign-block : (origin trail : Trail) (attributes : Attributes) (target : Target) (left : Left) → Quietly origin trail → Knows trail target.revision target.block
    → Comes (AssignEnds origin attributes target) trail (assign_block attributes target left)
unfolding AssignEnds
assign-block origin trail attributes target left quiet knows = λ moment store agrees.
    by moment store agrees (reply_of store (Update (record_of.Block (block_with_ordinal (next_block target.block) target.ordinal attributes)) target.revision)) refl
  where
    asked : Call
    asked = Update (record_of.Block (block_with_ordinal (next_block target.block) target.ordinal attributes)) target.revision

    lost : (moment : ℕ) (store : Datastore) → ((revision : ℕ) → reply_of store asked ≢ Can revision) → Comes (AssignEnds origin attributes target) (Did moment store asked ∷ trail) (assign_lost attributes target left)
    lost moment store not = assign-lost origin (Did moment store asked ∷ trail) attributes target left (More moment store asked trail (undone-quiet store asked (λ e. cc e) not) quiet)

    by : (moment : ℕ) (store : Datastore) → AgreesAll store trail → (said : Said) → reply_of store asked ≡ said
        → Comes (AssignEnds origin attributes target) (Did moment store asked ∷ trail)
        (on_write said left (λ taken. goes left (Some (record { moment = moment; stamp = target.block.sequence + 1 }))) (assign_lost attributes target left))
    by moment store agrees (Can revision) e = (
      record {
        moment = moment;
        store = store;
        asked = asked;
        between = trail;
        quiet = quiet;
        gift = assign-gives store trail target.block target.ordinal target.revision revision attributes agrees knows e;
        only = assign-only store (block_with_ordinal (next_block target.block) target.ordinal attributes) target.revision;
        is = refl;
      },
      record {
        store = store;
        between = trail;
        quiet = quiet;
        revision = revision;
        is = refl;
        granted = e;
        current = λ found there. knows store agrees found there;
        stamp = refl;
      },
    )
    by moment store agrees Missing e = lost moment store (λ revision f. cc (e, f))
    by moment store agrees (Exists revision) e = lost moment store (λ taken f. cc (e, f))
    by moment store agrees (Conflict revision) e = lost moment store (λ taken f. cc (e, f))
    by moment store agrees (Found revision found) e = lost moment store (λ taken f. cc (e, f))
    by moment store agrees (Listed rows) e = lost moment store (λ taken f. cc (e, f))
    by moment store agrees Full e = More moment store asked trail (undone-quiet store asked (λ f. cc f) (λ taken f. cc (e, f))) quiet
    by moment store agrees Spent e = More moment store asked trail (undone-quiet store asked (λ f. cc f) (λ taken f. cc (e, f))) quiet

pub assign-comes : (trail : Trail) (attributes : Attributes) (target : Target) (left : Left) → Knows trail target.revision target.block
    → Comes (AssignEnds trail attributes target) trail (assign attributes target left)
unfolding RaiseEnds AssignEnds
assign-comes trail attributes target left knows =
    Comes-bound (RaiseEnds attributes.handle target.block.cidr trail) (AssignEnds trail attributes target) (onward (λ now done. assign_block attributes target now)) (raise attributes.handle target.block.cidr left) trail
    (raise-tries attributes.handle target.block.cidr trail left.races left.claims trail Same) ends
  where
    ends : (longer : Trail) (outcome : Outcome (Unit {0})) → RaiseEnds attributes.handle target.block.cidr trail longer outcome → Comes (AssignEnds trail attributes target) longer (onward (λ now done. assign_block attributes target now) outcome)
    ends longer (Went now done) k = assign-block trail longer attributes target now k (quietly-knows trail longer target.revision target.block k knows)
    ends longer (Stops now OutOfTries) k = k
    ends longer (Stops now OutOfClaims) k = k
    ends longer (Stops now NoRoom) k = k
    ends longer (Stops now (CountAtLimit moment)) k = k
    ends longer (Stops now NoRevisions) k = k
