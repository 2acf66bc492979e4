-- What an operator's change and the release of an affinity are answered where they are done or refused.
use Rattle.std.proofs.Common.{◌≡◌, ℕ, zero, suc, Bool, true, false, cond, List, [], ◌∷◌, Option, Some, None, refl}
use Rattle.ipam_addr.specs.Shape.{CidrValue}
use Rattle.ipam_block.specs.declared.record.Affinity.{Affinity}
use Rattle.ipam_block.specs.declared.state.State.TheVariants.{PendingDeletion}
use Rattle.ipam_records.specs.declared.call.Call.{Call}
use Rattle.ipam_records.specs.declared.call.Call.TheVariants.{Get, Update, Delete}
use Rattle.ipam_records.specs.declared.key.Key.TheVariants as key
use Rattle.ipam_records.specs.declared.record.Record.{Record}
use Rattle.ipam_records.specs.declared.record.Record.TheVariants as record_of
use Rattle.ipam_records.specs.Datastore.{Datastore, reply_of}
use Rattle.ipam_records.specs.Said.{Can}
use Rattle.ipam_records.specs.Word.{Ends}
use Rattle.ipam_model.specs.declared.outcome.AdminAnswer.{AdminAnswer}
use Rattle.ipam_model.specs.declared.outcome.AdminAnswer.TheVariants as admin
use Rattle.ipam_model.specs.declared.outcome.ReleaseAnswer.{ReleaseAnswer}
use Rattle.ipam_model.specs.declared.outcome.ReleaseAnswer.TheVariants as released
use Rattle.ipam_model.specs.declared.part.Left.{Left}
use Rattle.ipam_model.specs.declared.part.Outcome.{Outcome}
use Rattle.ipam_model.specs.declared.part.Outcome.TheVariants.{Went, Stops}
use Rattle.ipam_model.specs.declared.part.Stop.{Stop}
use Rattle.ipam_model.specs.declared.part.Stop.TheVariants.{OutOfTries, OutOfClaims, NoRoom, CountAtLimit, NoRevisions}
use Rattle.ipam_model.specs.declared.request.Admin.{Admin as Setting}
use Rattle.ipam_model.specs.Admin as change
use Rattle.ipam_model.specs.Affinities.{BlockRead, Tie, affinity, baring, is_at_mark, release, release_block, release_delete, release_found, release_look, release_once, release_stops}
use Rattle.ipam_model.specs.Reads.{affinity_said, block_said}
use Rattle.ipam_model.specs.Step.{Part, all_left, answer_of, goes, left_of, stops, stop_answer, tries, write_back}
use Rattle.ipam_laws.proofs.Acts.{Later, Same, Since}
use Rattle.ipam_laws.proofs.AddParts.{after-write}
use Rattle.ipam_laws.proofs.Trails.{Comes, Comes-bound, Did, Trail}

-- ---- changes of settings

-- what was read last was changed and written
pub record DidChange (request : Setting) (revision : ℕ) (trail : Trail) : Type 0 where
  pub moment : ℕ
  pub later : ℕ
  pub store : Datastore
  pub other : Datastore
  pub before : Trail
  pub new : Record
  pub is : trail ≡ Did later other (write_back (reply_of store (Get (change.key_changed request))) new) ∷ Did moment store (Get (change.key_changed request)) ∷ before
  pub becomes : change.admin_change request (reply_of store (Get (change.key_changed request))) ≡ change.Becomes new
  pub done : reply_of other (write_back (reply_of store (Get (change.key_changed request))) new) ≡ Can revision

-- what was read last is refused
pub record DidRefuse (request : Setting) (number : ℕ) (name : List ℕ) (trail : Trail) : Type 0 where
  pub moment : ℕ
  pub store : Datastore
  pub before : Trail
  pub is : trail ≡ Did moment store (Get (change.key_changed request)) ∷ before
  pub refuses : change.admin_change request (reply_of store (Get (change.key_changed request))) ≡ change.Refuses number name

unfoldable pub IsChange : Setting → Trail → AdminAnswer → Type 0
IsChange request trail (admin.Done revision) = DidChange request revision trail
IsChange request trail (admin.Refused number name) = DidRefuse request number name trail
IsChange request trail (admin.Again lost) = Unit {0}
IsChange request trail admin.Full = Unit {0}
IsChange request trail admin.Spent = Unit {0}

unfoldable ChangeEnds : Setting → Trail → Outcome AdminAnswer → Type 0
ChangeEnds request trail (Went left told) = IsChange request trail told
ChangeEnds request trail (Stops left why) = Unit {0}

change-once : (request : Setting) (again : Part AdminAnswer) (left : Left) → ((trail : Trail) → Comes (ChangeEnds request) trail again) → (trail : Trail) → Comes (ChangeEnds request) trail (change.admin_once request again left)
unfolding ChangeEnds IsChange
change-once request again left h trail = λ moment store agrees. by moment store (change.admin_change request (reply_of store (Get (change.key_changed request)))) refl
  where
    by : (moment : ℕ) (store : Datastore) (what : change.Changed) → change.admin_change request (reply_of store (Get (change.key_changed request))) ≡ what
        → Comes (ChangeEnds request) (Did moment store (Get (change.key_changed request)) ∷ trail) (change.admin_write again left (reply_of store (Get (change.key_changed request))) what)
    by moment store (change.Refuses number name) e = record { moment = moment; store = store; before = trail; is = refl; refuses = e }
    by moment store (change.Becomes new) e = λ later other agrees.
        let asked = write_back (reply_of store (Get (change.key_changed request))) new in
        let longer : Trail = Did later other asked ∷ Did moment store (Get (change.key_changed request)) ∷ trail in
        after-write (ChangeEnds request) longer (reply_of other asked) (reply_of other asked) (λ revision. goes left (admin.Done revision)) again (stops left NoRoom) (stops left NoRevisions) refl
        (λ revision done. record {
          moment = moment;
          later = later;
          store = store;
          other = other;
          before = trail;
          new = new;
          is = refl;
          becomes = e;
          done = done;
        })
        (h longer) tt tt

change-tries : (request : Setting) (races claims : ℕ) (trail : Trail) → Comes (ChangeEnds request) trail (tries (change.admin_once request) races claims)
unfolding tries ChangeEnds
change-tries request zero claims = change-once request (stops (left_of zero claims) OutOfTries) (left_of zero claims) (λ trail. tt)
change-tries request (suc races) claims = change-once request (tries (change.admin_once request) races claims) (left_of (suc races) claims) (change-tries request races claims)

pub change-comes : (request : Setting) → Comes (IsChange request) [] (change.admin_word request)
unfolding ChangeEnds IsChange
change-comes request =
    Comes-bound (ChangeEnds request) (IsChange request) (λ outcome. Ends (answer_of change.admin_stops outcome)) (tries (change.admin_once request) all_left.races all_left.claims) []
    (change-tries request all_left.races all_left.claims []) ends
  where
    stopped : (trail : Trail) (left : Left) (why : Stop) → IsChange request trail (stop_answer change.admin_stops left why)
    stopped trail left OutOfTries = tt
    stopped trail left OutOfClaims = tt
    stopped trail left NoRoom = tt
    stopped trail left (CountAtLimit moment) = tt
    stopped trail left NoRevisions = tt

    ends : (trail : Trail) (outcome : Outcome AdminAnswer) → ChangeEnds request trail outcome → IsChange request trail (answer_of change.admin_stops outcome)
    ends trail (Went left told) k = k
    ends trail (Stops left why) k = stopped trail left why

-- ---- the release of an affinity

-- the affinity was marked, the block bared, and the affinity deleted at its mark
pub record DidRelease (tie : Tie) (trail : Trail) : Type 0 where
  pub marked_at : ℕ
  pub bared_at : ℕ
  pub deleted_at : ℕ
  pub marked_in : Datastore
  pub bared_in : Datastore
  pub deleted_in : Datastore
  pub old : ℕ
  pub mark : ℕ
  pub bared : ℕ
  pub revision : ℕ
  pub read : BlockRead
  pub earlier : Trail
  pub between : Trail
  pub since : Since (Did marked_at marked_in (Update (record_of.Affinity (affinity tie.node tie.block PendingDeletion)) old) ∷ earlier) between
  pub is_mark : reply_of marked_in (Update (record_of.Affinity (affinity tie.node tie.block PendingDeletion)) old) ≡ Can mark
  pub is : trail ≡ Did deleted_at deleted_in (Delete (key.Affinity tie.node tie.block) mark) ∷ Did bared_at bared_in (baring tie.node tie.block read) ∷ between
  pub is_bared : reply_of bared_in (baring tie.node tie.block read) ≡ Can bared
  pub is_deleted : reply_of deleted_in (Delete (key.Affinity tie.node tie.block) mark) ≡ Can revision

-- there was no affinity
pub record DidMiss (tie : Tie) (moment : ℕ) (trail : Trail) : Type 0 where
  pub store : Datastore
  pub before : Trail
  pub is : trail ≡ Did moment store (Get (key.Affinity tie.node tie.block)) ∷ before
  pub none : affinity_said (reply_of store (Get (key.Affinity tie.node tie.block))) ≡ None

unfoldable pub IsRelease : Tie → Trail → ReleaseAnswer → Type 0
IsRelease tie trail released.Released = DidRelease tie trail
IsRelease tie trail (released.NoAffinity moment) = DidMiss tie moment trail
IsRelease tie trail (released.Again lost) = Unit {0}
IsRelease tie trail released.Full = Unit {0}
IsRelease tie trail released.Spent = Unit {0}

unfoldable ReleaseEnds : Tie → Trail → Outcome ReleaseAnswer → Type 0
ReleaseEnds tie trail (Went left told) = IsRelease tie trail told
ReleaseEnds tie trail (Stops left why) = Unit {0}

module _ (tie : Tie) (again : Part ReleaseAnswer) (left : Left) (h : (trail : Trail) → Comes (ReleaseEnds tie) trail again) where
  abbrev marking : ℕ → Call
  marking old = Update (record_of.Affinity (affinity tie.node tie.block PendingDeletion)) old

  -- the affinity was marked by a call of the trail
  record HasMark (mark : ℕ) (trail : Trail) : Type 0 where
    at : ℕ
    store : Datastore
    old : ℕ
    earlier : Trail
    since : Since (Did at store (marking old) ∷ earlier) trail
    is_mark : reply_of store (marking old) ≡ Can mark

  block-ends : (mark : ℕ) (read : BlockRead) (trail : Trail) → HasMark mark trail → Comes (ReleaseEnds tie) trail (release_block tie again left mark read)
  unfolding ReleaseEnds IsRelease
  block-ends mark read trail m = λ bared_at bared_in agrees.
      let bares = baring tie.node tie.block read in
      let second : Trail = Did bared_at bared_in bares ∷ trail in
      after-write (ReleaseEnds tie) second (reply_of bared_in bares) (reply_of bared_in bares) (λ revision. release_delete tie again left mark) again (stops left NoRoom) (stops left NoRevisions) refl
      (λ bared is_bared deleted_at deleted_in agrees_then.
      let deletes = Delete (key.Affinity tie.node tie.block) mark in
      let third : Trail = Did deleted_at deleted_in deletes ∷ second in
      after-write (ReleaseEnds tie) third (reply_of deleted_in deletes) (reply_of deleted_in deletes) (λ revision. goes left released.Released) again (stops left NoRoom) (stops left NoRevisions) refl
      (λ revision is_deleted. record {
        marked_at = m.at;
        bared_at = bared_at;
        deleted_at = deleted_at;
        marked_in = m.store;
        bared_in = bared_in;
        deleted_in = deleted_in;
        old = m.old;
        mark = mark;
        bared = bared;
        revision = revision;
        read = read;
        earlier = m.earlier;
        between = trail;
        since = m.since;
        is_mark = m.is_mark;
        is = refl;
        is_bared = is_bared;
        is_deleted = is_deleted;
      })
      (h third) tt tt)
      (h second) tt tt

  look-ends : (mark : ℕ) (trail : Trail) → HasMark mark trail → Comes (ReleaseEnds tie) trail (release_look tie again left mark)
  look-ends mark trail m = λ moment store agrees second other agrees_then.
      let one : Trail = Did moment store (Get (key.Block tie.block)) ∷ trail in
      let two : Trail = Did second other (Get (key.Affinity tie.node tie.block)) ∷ one in
      by two (record {
        at = m.at;
        store = m.store;
        old = m.old;
        earlier = m.earlier;
        since = Later (Did second other (Get (key.Affinity tie.node tie.block))) one (Later (Did moment store (Get (key.Block tie.block))) trail m.since);
        is_mark = m.is_mark;
      }) (block_said (reply_of store (Get (key.Block tie.block)))) (is_at_mark mark (affinity_said (reply_of other (Get (key.Affinity tie.node tie.block)))))
    where
      by : (longer : Trail) → HasMark mark longer → (read : BlockRead) (b : Bool) → Comes (ReleaseEnds tie) longer (cond b (release_block tie again left mark read) again)
      by longer k read true = block-ends mark read longer k
      by longer k read false = h longer

  once-ends : (trail : Trail) → Comes (ReleaseEnds tie) trail (release_once tie again left)
  unfolding ReleaseEnds IsRelease
  once-ends trail = λ moment store agrees. by moment store (affinity_said (reply_of store (Get (key.Affinity tie.node tie.block)))) refl
    where
      by : (moment : ℕ) (store : Datastore) (found : Option (ℕ × Affinity)) → affinity_said (reply_of store (Get (key.Affinity tie.node tie.block))) ≡ found
          → Comes (ReleaseEnds tie) (Did moment store (Get (key.Affinity tie.node tie.block)) ∷ trail) (release_found tie again left moment found)
      by moment store None e = record { store = store; before = trail; is = refl; none = e }
      by moment store (Some found) e = λ second other agrees.
          let one : Trail = Did moment store (Get (key.Affinity tie.node tie.block)) ∷ trail in
          let two : Trail = Did second other (marking found.0) ∷ one in
          after-write (ReleaseEnds tie) two (reply_of other (marking found.0)) (reply_of other (marking found.0)) (release_look tie again left) again (stops left NoRoom) (stops left NoRevisions) refl
          (λ mark is_mark. look-ends mark two (record { at = second; store = other; old = found.0; earlier = one; since = Same; is_mark = is_mark }))
          (h two) tt tt

release-tries : (tie : Tie) (races claims : ℕ) (trail : Trail) → Comes (ReleaseEnds tie) trail (tries (release_once tie) races claims)
unfolding tries ReleaseEnds
release-tries tie zero claims = once-ends tie (stops (left_of zero claims) OutOfTries) (left_of zero claims) (λ trail. tt)
release-tries tie (suc races) claims = once-ends tie (tries (release_once tie) races claims) (left_of (suc races) claims) (release-tries tie races claims)

pub release-comes : (node : List ℕ) (cidr : CidrValue) → Comes (IsRelease (record { node = node; block = cidr })) [] (release node cidr)
unfolding ReleaseEnds IsRelease
release-comes node cidr =
    Comes-bound (ReleaseEnds tie) (IsRelease tie) (λ outcome. Ends (answer_of release_stops outcome)) (tries (release_once tie) all_left.races all_left.claims) []
    (release-tries tie all_left.races all_left.claims []) ends
  where
    tie : Tie
    tie = record { node = node; block = cidr }

    stopped : (trail : Trail) (left : Left) (why : Stop) → IsRelease tie trail (stop_answer release_stops left why)
    stopped trail left OutOfTries = tt
    stopped trail left OutOfClaims = tt
    stopped trail left NoRoom = tt
    stopped trail left (CountAtLimit moment) = tt
    stopped trail left NoRevisions = tt

    ends : (trail : Trail) (outcome : Outcome ReleaseAnswer) → ReleaseEnds tie trail outcome → IsRelease tie trail (answer_of release_stops outcome)
    ends trail (Went left told) k = k
    ends trail (Stops left why) k = stopped trail left why
