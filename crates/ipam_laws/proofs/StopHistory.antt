-- In each history, what stops a request is right: that it was tried too often, that there was no room,
-- and that there were no revisions.
use Rattle.std.proofs.Common.{◌≡◌, ◌≢◌, inl, inr, ℕ, zero, suc, ◌+◌, ◌≤◌, Bool, true, false, not, cond, List, [], ◌∷◌, Option, Some, None, refl, sym, ap, ◌∙◌, subst, arith}
use Rattle.std.specs.Prelude.{◌&&◌}
use Rattle.ipam_addr.specs.Shape.{AddrValue, CidrValue}
use Rattle.ipam_block.specs.declared.record.Affinity.{Affinity}
use Rattle.ipam_block.specs.declared.state.State.TheVariants.{PendingDeletion}
use Rattle.ipam_records.specs.declared.call.Call.{Call}
use Rattle.ipam_records.specs.declared.call.Call.TheVariants.{Get, Update, Delete, Create}
use Rattle.ipam_records.specs.declared.key.Key.TheVariants as key
use Rattle.ipam_records.specs.declared.record.Record.{Record}
use Rattle.ipam_records.specs.declared.record.Record.TheVariants as record_of
use Rattle.ipam_records.specs.Datastore.{Datastore, reply_of, reply_to_get, row_of}
use Rattle.ipam_records.specs.Said.{Said}
use Rattle.ipam_model.specs.declared.answer.Answer.{Answer}
use Rattle.ipam_model.specs.declared.answer.Answer.TheVariants as answer
use Rattle.ipam_model.specs.declared.outcome.CheckAnswer.{CheckAnswer}
use Rattle.ipam_model.specs.declared.outcome.CheckAnswer.TheVariants as check
use Rattle.ipam_model.specs.declared.outcome.ProbeAnswer.{ProbeAnswer}
use Rattle.ipam_model.specs.declared.outcome.ProbeAnswer.TheVariants as probe
use Rattle.ipam_model.specs.declared.outcome.ReleaseAnswer.{ReleaseAnswer}
use Rattle.ipam_model.specs.declared.outcome.ReleaseAnswer.TheVariants as released
use Rattle.ipam_model.specs.declared.part.Left.{Left}
use Rattle.ipam_model.specs.declared.part.Outcome.{Outcome}
use Rattle.ipam_model.specs.declared.part.Outcome.TheVariants.{Stops}
use Rattle.ipam_model.specs.declared.part.Stop.TheVariants.{OutOfTries, NoRoom, NoRevisions}
use Rattle.ipam_model.specs.declared.entry.Called.{Called}
use Rattle.ipam_model.specs.declared.entry.Fate.{Fate}
use Rattle.ipam_model.specs.declared.entry.Fate.TheVariants.{After, Before, Well}
use Rattle.ipam_model.specs.declared.entry.Told.TheVariants as told
use Rattle.ipam_model.specs.declared.request.ProbeRequest.{ProbeRequest}
use Rattle.ipam_model.specs.declared.request.Request.{Request}
use Rattle.ipam_model.specs.AnswerLaw.{IsAgain}
use Rattle.ipam_model.specs.Answered.{Answered, earlier_calls, history_of, span_of}
use Rattle.ipam_model.specs.History.{Lawful, cluster_at, now}
use Rattle.ipam_model.specs.Moments.{request_in}
use Rattle.ipam_model.specs.OtherLaws.{IsFull}
use Rattle.ipam_records.specs.Key.{key_of}
use Rattle.ipam_records.specs.Sound.{IsDatastore}
use Rattle.ipam_model.specs.declared.request.Request.TheVariants.{Add, AddThis, Admin, Check, Collect, Del, Probe, Release}
use Rattle.ipam_model.specs.Affinities.{BlockRead, Tie, affinity, baring, is_at_mark, release, release_block, release_delete, release_found, release_look, release_once, release_stops}
use Rattle.ipam_model.specs.Look.{check_word, probe_word}
use Rattle.ipam_model.specs.Named.{name_of, told_of}
use Rattle.ipam_model.specs.Reads.{affinity_said, block_said}
use Rattle.ipam_model.specs.Requests.{told_as, word_of}
use Rattle.ipam_model.specs.Step.{Part, goes, left_of, stops, tries}
use Rattle.ipam_model.specs.Told.{of_check, of_probe, of_release}
use Rattle.ipam_model.specs.Tries.{claims_of, confirmed_claims, done_or, follows_block_read, is_add, is_mark_found, is_lost, is_write, latest_done}
use Rattle.ipam_laws.proofs.Calls.{found-key}
use Rattle.ipam_laws.proofs.FamilyHistory.{comes-any}
use Rattle.ipam_laws.proofs.Losses.{HasFull, HasLost, IsLeft, Stopped, call_at, claims-none, done-left, kept-left, lost_in, same-calls, step-lost, told_calls, wrote}
use Rattle.ipam_laws.proofs.OwnersHistory.{part-of}
use Rattle.ipam_laws.proofs.StoreSteps.{failed-answered}
use Rattle.ipam_laws.proofs.StopRequests.{IsAgainThere, ToldOf, ToldStop, add-stops, again-none, change-stops, collect-stops, del-stops, first-left, settle-told, tell, this-stops}
use Rattle.ipam_laws.proofs.Trails.{AreCalls, Comes, Did, IsTrail, Trail, answer-comes}

-- ---- the release of an affinity

module _ (node : List ℕ) (cidr : CidrValue) where
  abbrev tie : Tie
  tie = record { node = node; block = cidr }

  abbrev whole : Request
  whole = Release node cidr

  abbrev ToldRelease : Trail → Outcome ReleaseAnswer → Type 0
  ToldRelease = ToldOf whole of_release release_stops

  -- what begins again does not follow a read of the block
  abbrev AgainThere : (bound : ℕ) → Left → Part ReleaseAnswer → Type 0
  AgainThere bound left again = (trail : Trail) → HasLost whole bound trail left → follows_block_read (told_calls trail) ≡ false → Comes ToldRelease trail again

  module _ (bound : ℕ) (again : Part ReleaseAnswer) (left : Left) (h : AgainThere bound left again) where
    delete-comes : (mark : ℕ) (trail : Trail) → IsLeft whole bound trail left → Comes ToldRelease trail (release_delete tie again left mark)
    unfolding ToldStop told_calls
    delete-comes mark trail l = λ moment store agrees.
        let asked = Delete (key.Affinity node cidr) mark in
        wrote whole ToldRelease bound moment store asked trail left (λ revision. goes left released.Released) again (stops left NoRoom) (stops left NoRevisions) refl l
        (λ revision done. tt) (λ lost. h (Did moment store asked ∷ trail) lost refl) (λ created is full k. absurd (cc is)) (λ spent. spent)

    block-comes : (mark : ℕ) (read : BlockRead) (trail : Trail) → IsLeft whole bound trail left → Comes ToldRelease trail (release_block tie again left mark read)
    unfolding ToldStop told_calls
    block-comes mark read trail l = λ moment store agrees.
        let asked = baring node cidr read in
        let (w, follows) = shape read moment store trail in
        wrote whole ToldRelease bound moment store asked trail left (λ revision. release_delete tie again left mark) again (stops left NoRoom) (stops left NoRevisions) w l
        (λ revision done. delete-comes mark (Did moment store asked ∷ trail) (done-left whole bound moment store asked trail left revision w done (inl refl) l))
        (λ lost. h (Did moment store asked ∷ trail) lost follows) (λ created is full k. full) (λ spent. spent)
      where
        shape : (read : BlockRead) (moment : ℕ) (store : Datastore) (trail : Trail) → (is_write (name_of (baring node cidr read)) ≡ true) × (follows_block_read (told_calls (Did moment store (baring node cidr read) ∷ trail)) ≡ false)
        shape None moment store trail = (refl, refl)
        shape (Some found) moment store trail = (refl, refl)

    -- whether the affinity is at its mark, by the reply as it is told
    mark-told : (store : Datastore) (mark : ℕ) → is_mark_found (Some mark) (told_of (reply_of store (Get (key.Affinity node cidr)))) ≡ is_at_mark mark (affinity_said (reply_of store (Get (key.Affinity node cidr))))
    mark-told store mark = by (row_of (key.Affinity node cidr) store.rows) refl
      where
        by : (o : Option (ℕ × Record)) → row_of (key.Affinity node cidr) store.rows ≡ o → is_mark_found (Some mark) (told_of (reply_to_get o)) ≡ is_at_mark mark (affinity_said (reply_to_get o))
        by None e = refl
        by (Some (revision, record_of.Affinity found)) e = refl
        by (Some (revision, record_of.Config config)) e = let k = found-key store (key.Affinity node cidr) revision (record_of.Config config) e in absurd (cc k)
        by (Some (revision, record_of.Pools pools)) e = let k = found-key store (key.Affinity node cidr) revision (record_of.Pools pools) e in absurd (cc k)
        by (Some (revision, record_of.Reservations list)) e = let k = found-key store (key.Affinity node cidr) revision (record_of.Reservations list) e in absurd (cc k)
        by (Some (revision, record_of.Block b)) e = let k = found-key store (key.Affinity node cidr) revision (record_of.Block b) e in absurd (cc k)
        by (Some (revision, record_of.Handle handle)) e = let k = found-key store (key.Affinity node cidr) revision (record_of.Handle handle) e in absurd (cc k)

    -- a read is no write that was done
    read-done : (store : Datastore) (earlier : Option ℕ) → done_or (told_of (reply_of store (Get (key.Block cidr)))) earlier ≡ earlier
    read-done store earlier = by (row_of (key.Block cidr) store.rows)
      where
        by : (o : Option (ℕ × Record)) → done_or (told_of (reply_to_get o)) earlier ≡ earlier
        by None = refl
        by (Some row) = refl

    look-comes : (mark : ℕ) (trail : Trail) → latest_done (told_calls trail) ≡ Some mark → IsLeft whole bound trail left → Comes ToldRelease trail (release_look tie again left mark)
    unfolding told_calls
    look-comes mark trail latest l = λ moment store agrees second other agrees_then.
        let block = Get (key.Block cidr) in
        let look = Get (key.Affinity node cidr) in
        let one : Trail = Did moment store block ∷ trail in
        let kept = kept-left whole bound moment store block trail left refl (inl refl) l in
        let is : latest_done (told_calls one) ≡ Some mark = read-done store (latest_done (told_calls trail)) ∙ latest in
        let at = ap (λ (o : Option ℕ). is_mark_found o (told_of (reply_of other look))) is ∙ mark-told other mark in
        let two : Trail = Did second other look ∷ one in
        by second other one two refl kept (λ b e. ap not (at ∙ e)) (block_said (reply_of store block)) (is_at_mark mark (affinity_said (reply_of other look))) refl refl
      where
        by : (second : ℕ) (other : Datastore) (one two : Trail) → two ≡ Did second other (Get (key.Affinity node cidr)) ∷ one → IsLeft whole bound one left
            → ((b : Bool) → is_at_mark mark (affinity_said (reply_of other (Get (key.Affinity node cidr)))) ≡ b → is_lost whole (call_at other (Get (key.Affinity node cidr))) (told_calls one) ≡ not b)
            → (read : BlockRead) (b : Bool) → is_at_mark mark (affinity_said (reply_of other (Get (key.Affinity node cidr)))) ≡ b → follows_block_read (told_calls (Did second other (Get (key.Affinity node cidr)) ∷ one)) ≡ false
            → Comes ToldRelease (Did second other (Get (key.Affinity node cidr)) ∷ one) (cond b (release_block tie again left mark read) again)
        by second other one two same kept lost read true e follows = block-comes mark read (Did second other (Get (key.Affinity node cidr)) ∷ one) (kept-left whole bound second other (Get (key.Affinity node cidr)) one left (lost true e) (inl refl) kept)
        by second other one two same kept lost read false e follows =
            h (Did second other (Get (key.Affinity node cidr)) ∷ one)
            (step-lost whole bound second other (Get (key.Affinity node cidr)) one left (lost false e) (claims-none whole second other (Get (key.Affinity node cidr)) one (inl refl)) kept) follows

    once-comes : (trail : Trail) → follows_block_read (told_calls trail) ≡ false → IsLeft whole bound trail left → Comes ToldRelease trail (release_once tie again left)
    unfolding ToldStop told_calls
    once-comes trail follows l = λ moment store agrees.
        let asked = Get (key.Affinity node cidr) in
        let no = ap (λ (b : Bool). b && not (is_mark_found (latest_done (told_calls trail)) (told_of (reply_of store asked)))) follows in
        by (Did moment store asked ∷ trail) (kept-left whole bound moment store asked trail left no (inl refl) l) moment (affinity_said (reply_of store asked))
      where
        by : (longer : Trail) → IsLeft whole bound longer left → (moment : ℕ) (found : Option (ℕ × Affinity)) → Comes ToldRelease longer (release_found tie again left moment found)
        by longer k moment None = tt
        by longer k moment (Some found) = λ second store agrees.
            let asked = Update (record_of.Affinity (affinity node cidr PendingDeletion)) found.0 in
            wrote whole ToldRelease bound second store asked longer left (release_look tie again left) again (stops left NoRoom) (stops left NoRevisions) refl k
            (λ mark done. look-comes mark (Did second store asked ∷ longer) (ap (λ (said : Said). done_or (told_of said) (latest_done (told_calls longer))) done) (done-left whole bound second store asked longer left mark refl done (inl refl) k))
            (λ lost. h (Did second store asked ∷ longer) lost refl) (λ created is full l. absurd (cc is)) (λ spent. spent)

  -- a lost race with one less left
  lost-next : (races claims : ℕ) (trail : Trail) → HasLost whole 126 trail (left_of (suc races) claims) → IsLeft whole 126 trail (left_of races claims)
  lost-next races claims trail h = record { lost = less (lost_in whole trail) h.lost; claims = h.claims; within = fits h.within }
    where
      less : (n : ℕ) → n + suc races ≡ 64 → n + races ≡ 63
      less n e = omega (arith, e)

      fits : suc races + claims ≤ 126 → races + claims ≤ 126
      fits w = omega arith

  lost-last : (claims : ℕ) (trail : Trail) → HasLost whole 126 trail (left_of zero claims) → ToldRelease trail (Stops (left_of zero claims) OutOfTries)
  unfolding ToldStop Stopped
  lost-last claims trail h = again-none whole trail (left_of zero claims) refl (plain (lost_in whole trail) h.lost, h.claims, h.last)
    where
      plain : (n : ℕ) → n + 0 ≡ 64 → n ≡ 64
      plain n e = omega (arith, e)

  release-tries : (races claims : ℕ) (trail : Trail) → follows_block_read (told_calls trail) ≡ false → IsLeft whole 126 trail (left_of races claims) → Comes ToldRelease trail (tries (release_once tie) races claims)
  unfolding tries
  release-tries zero claims trail follows l = once-comes 126 (stops (left_of zero claims) OutOfTries) (left_of zero claims) (λ longer lost behind. lost-last claims longer lost) trail follows l
  release-tries (suc races) claims trail follows l =
      once-comes 126 (tries (release_once tie) races claims) (left_of (suc races) claims)
      (λ longer lost behind. release-tries races claims longer behind (lost-next races claims longer lost)) trail follows l

  pub release-stops : Comes (ToldStop whole) [] (told_as of_release (release node cidr))
  unfolding told_calls
  release-stops =
      tell whole of_release (release node cidr) []
      (settle-told whole of_release release_stops _ [] (release-tries 63 63 [] refl (first-left whole)))

-- ---- the requests that write nothing

check-stops : (id : List ℕ) (addresses : List AddrValue) → Comes (ToldStop (Check id addresses)) [] (told_as of_check (check_word id addresses))
unfolding ToldStop
check-stops id addresses = tell (Check id addresses) of_check (check_word id addresses) [] (comes-any (λ trail a. ToldStop (Check id addresses) trail (of_check a)) by (check_word id addresses) [])
  where
    by : (trail : Trail) (a : CheckAnswer) → ToldStop (Check id addresses) trail (of_check a)
    by trail check.Checked = tt
    by trail (check.NotRecorded address moment) = tt

probe-stops : (request : ProbeRequest) → Comes (ToldStop (Probe request)) [] (told_as of_probe (probe_word request))
unfolding ToldStop
probe-stops request = tell (Probe request) of_probe (probe_word request) [] (comes-any (λ trail a. ToldStop (Probe request) trail (of_probe a)) by (probe_word request) [])
  where
    by : (trail : Trail) (a : ProbeAnswer) → ToldStop (Probe request) trail (of_probe a)
    by trail (probe.Ready scans) = tt
    by trail (probe.Exhausted scan) = tt
    by trail (probe.NoPool name moment) = tt

-- ---- all requests

pub all-stop : (request : Request) → Comes (ToldStop request) [] (word_of request)
unfolding word_of
all-stop (Add request) = add-stops request
all-stop (AddThis request address) = this-stops request address
all-stop (Del id) = del-stops id
all-stop (Check id addresses) = check-stops id addresses
all-stop (Release node cidr) = release-stops node cidr
all-stop (Collect request) = collect-stops request
all-stop (Admin request) = change-stops request
all-stop (Probe request) = probe-stops request

-- ---- in the span

-- the answer is right, as far as it says why the request stopped
unfoldable pub IsStopRight : Answered → Answer → Type 0
IsStopRight a (answer.Again lost claims) = IsAgain a lost claims
IsStopRight a answer.Full = IsFull a
IsStopRight a answer.Spent = a.call.reply ≡ told.Spent
IsStopRight a _ = Unit {0}

-- what the calls before the latest count
earlier-calls : (a : Answered) (moment : ℕ) (store : Datastore) (asked : Call) (before trail : Trail) → trail ≡ Did moment store asked ∷ before → AreCalls trail (a.call ∷ earlier_calls a) → AreCalls before (earlier_calls a) × (a.call.reply ≡ told_of (reply_of store asked))
unfolding AreCalls
earlier-calls a moment store asked before trail is calls =
    let (c, rest, same, call, more) = subst (λ (t : Trail). AreCalls t (a.call ∷ earlier_calls a)) is calls in
    let first : a.call ≡ c = cc same in
    let behind : earlier_calls a ≡ rest = cc same in (
      subst (λ (l : List Called). AreCalls before l) (sym behind) more,
      ap (λ (x : Called). x.reply) first ∙ call.reply,
    )

claims-same : (request : Request) (one other : List Called) → confirmed_claims one ≡ confirmed_claims other → claims_of request one ≡ claims_of request other
claims-same request one other e = ap (λ (n : ℕ). cond (is_add request) n 0) e

again-right : (a : Answered) (trail : Trail) (lost claims : ℕ) → AreCalls trail (a.call ∷ earlier_calls a) → IsAgainThere a.request trail lost claims → IsAgain a lost claims
again-right a trail lost claims calls h =
    let same = same-calls a.request trail (a.call ∷ earlier_calls a) calls in
    record {
      are_lost = same.lost ∙ h.are_lost;
      are_claims = claims-same a.request (a.call ∷ earlier_calls a) (told_calls trail) same.confirmed ∙ h.are_claims;
      by_this_call = elim h.by_last [
        | inl tired ↦
            let last = tired.1 in
            let before = same-calls a.request last.before (earlier_calls a) (earlier-calls a last.moment last.store last.asked last.before trail last.is calls).0 in
            inl (tired.0, ap (λ (n : ℕ). n + 1) before.lost ∙ last.one_more ∙ h.are_lost)
        | inr worn ↦
            let last = worn.1 in
            let before = same-calls a.request last.before (earlier_calls a) (earlier-calls a last.moment last.store last.asked last.before trail last.is calls).0 in
            inr (worn.0, ap (λ (n : ℕ). n + 1) (claims-same a.request (earlier_calls a) (told_calls last.before) before.confirmed) ∙ last.one_more ∙ h.are_claims)
      ];
    }

full-right : (a : Answered) (trail : Trail) → IsTrail (span_of a) (now (span_of a)) trail → HasFull trail → IsFull a
unfolding IsTrail
full-right a trail is h =
    let (until, there) = part-of (span_of a) (Did h.moment h.store (Create h.new) ∷ h.before) trail (now (span_of a)) h.since is in
    let did = there.0 in
    record {
      moment = h.moment;
      c = did.c;
      in_span = did.in_span;
      about = key_of h.new;
      creates = did.is_call;
      is_full = did.is_reply ∙ ap told_of h.full;
    }

stop-right : (a : Answered) (trail : Trail) → IsTrail (span_of a) (now (span_of a)) trail → AreCalls trail (a.call ∷ earlier_calls a) → (told : Answer) → ToldStop a.request trail told → IsStopRight a told
unfolding ToldStop IsStopRight
stop-right a trail is calls (answer.Again lost claims) h = again-right a trail lost claims calls h
stop-right a trail is calls answer.Full h = full-right a trail is h
stop-right a trail is calls answer.Spent h = (earlier-calls a h.moment h.store h.asked h.before trail h.is calls).1 ∙ ap told_of h.spent
stop-right a trail is calls other h = tt

-- an answer that is no fault is that of a call that went well
pub went-well : (a : Answered) (told : Answer) → Lawful a.base (history_of a) → a.call.answer ≡ Some told → told ≢ answer.Fault → a.call.fate ≡ Well
went-well a told h given differ = by a.call.fate refl
  where
    failed : a.call.fate ≢ Well → told ≡ answer.Fault
    failed not_well = let fault = failed-answered a.base a.earlier a.call h not_well in let same : Some told ≡ Some answer.Fault = sym given ∙ fault in cc same

    by : (fate : Fate) → a.call.fate ≡ fate → a.call.fate ≡ Well
    by Well fate = fate
    by Before fate = absurd (differ (failed (λ e. cc (e, fate))))
    by After fate = absurd (differ (failed (λ e. cc (e, fate))))

pub stopped-right : (a : Answered) (told : Answer) → IsDatastore a.base.store → Lawful a.base (history_of a) → request_in (cluster_at a.base a.earlier) a.call.slot ≡ Some a.request → a.call.answer ≡ Some told → told ≢ answer.Fault → IsStopRight a told
stopped-right a told sound h requested given differ =
    let comes = answer-comes ToldStop all-stop a told sound h requested given (went-well a told h given differ) in
    stop-right a comes.trail comes.is_trail comes.calls told comes.comes
