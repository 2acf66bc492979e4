-- What an operator's change and the release of an affinity are answered is right.
use Rattle.std.proofs.Common.{◌≡◌, ℕ, ◌+◌, inl, inr, List, [], ◌∷◌, Option, Some, None, refl, sym, ap, ◌∙◌, subst, arith}
use Rattle.ipam_addr.specs.Shape.{CidrValue}
use Rattle.ipam_block.specs.declared.state.State.TheVariants.{PendingDeletion}
use Rattle.ipam_records.specs.declared.call.Call.{Call}
use Rattle.ipam_records.specs.declared.call.Call.TheVariants.{Get, Update, Delete}
use Rattle.ipam_records.specs.declared.key.Key.TheVariants as key
use Rattle.ipam_records.specs.declared.record.Record.{Record}
use Rattle.ipam_records.specs.declared.record.Record.TheVariants as record_of
use Rattle.ipam_records.specs.Datastore.{Datastore, reply_of, reply_to_get, row_of, write_granted}
use Rattle.ipam_records.specs.Said.{Said, Can, Missing}
use Rattle.ipam_records.specs.Word.{Ends}
use Rattle.ipam_records.proofs.DatastoreLemmas.{row_of-without_row}
use Rattle.ipam_model.specs.declared.answer.Answer.{Answer}
use Rattle.ipam_model.specs.declared.answer.Answer.TheVariants as answer
use Rattle.ipam_model.specs.declared.entry.Called.{Called}
use Rattle.ipam_model.specs.declared.entry.Entry.TheVariants as entry
use Rattle.ipam_model.specs.declared.outcome.AdminAnswer.{AdminAnswer}
use Rattle.ipam_model.specs.declared.outcome.AdminAnswer.TheVariants as admin
use Rattle.ipam_model.specs.declared.outcome.ReleaseAnswer.{ReleaseAnswer}
use Rattle.ipam_model.specs.declared.outcome.ReleaseAnswer.TheVariants as released
use Rattle.ipam_model.specs.declared.request.Admin.{Admin as Setting}
use Rattle.ipam_model.specs.Admin.{admin_word, key_changed}
use Rattle.ipam_model.specs.Affinities.{affinity, baring, release}
use Rattle.ipam_model.specs.Answered.{Answered, earlier_calls, history_of, now_of, span_of}
use Rattle.ipam_model.specs.Cluster.{record_written, store_with}
use Rattle.ipam_model.specs.Consistent.{IsConsistent}
use Rattle.ipam_model.specs.History.{HeardCall, InSpan, Lawful, now, seen_at, seen_now}
use Rattle.ipam_model.specs.Moments.{IsNext}
use Rattle.ipam_model.specs.Named.{told_of}
use Rattle.ipam_model.specs.OtherLaws.{HasNoAffinity, IsChangeDone, IsChangeRefused, IsReleased}
use Rattle.ipam_model.specs.Reads.{affinity_said}
use Rattle.ipam_model.specs.Requests.{told_as}
use Rattle.ipam_model.specs.Step.{write_back}
use Rattle.ipam_model.specs.Told.{of_admin, of_release}
use Rattle.ipam_laws.proofs.Calls.{found-key}
use Rattle.ipam_laws.proofs.FamilyHistory.{heard, three}
use Rattle.ipam_laws.proofs.HeardAnswers.{DidChange, DidMiss, DidRefuse, DidRelease, IsChange, IsRelease, change-comes, release-comes}
use Rattle.ipam_laws.proofs.Lift.{behind}
use Rattle.ipam_laws.proofs.Losses.{back-new}
use Rattle.ipam_laws.proofs.OwnersHistory.{part-of}
use Rattle.ipam_laws.proofs.SlotsHistory.{consistent_law}
use Rattle.ipam_laws.proofs.Trails.{AreCalls, Comes, Comes-bound, Did, IsCallOf, IsTrail, Trail, in-span-now, seen-now, span_at}

-- ---- the call that answers

-- the latest step is the call that answers
pub latest-now : (a : Answered) (moment : ℕ) (store : Datastore) (asked : Call) (before : Trail) → IsTrail (span_of a) (now (span_of a)) (Did moment store asked ∷ before) → moment ≡ now_of a
unfolding IsTrail
latest-now a moment store asked before h =
    let next = h.1 in
    let inside : InSpan (span_of a) (now_of a) (entry.Called a.call) = in-span-now (span_at a.base a.earlier a.call.slot) (entry.Called a.call) refl in
    elim (three moment (now_of a)) [
      | inl early ↦ absurd (next.nothing_between (now_of a) (entry.Called a.call) early (omega arith) inside)
      | inr (inl same) ↦ same
      | inr (inr late) ↦ let behind_it = next.behind in absurd (omega arith)
    ]

pub latest-call : (a : Answered) (moment : ℕ) (store : Datastore) (asked : Call) (before : Trail) → AreCalls (Did moment store asked ∷ before) (a.call ∷ earlier_calls a) → IsCallOf a.call store asked
unfolding AreCalls
latest-call a moment store asked before (c, rest, same, call, more) =
    let first : c ≡ a.call = cc same in subst (λ (x : Called). IsCallOf x store asked) first call

-- ---- changes of settings

change-done : (a : Answered) (setting : Setting) (revision : ℕ) (trail : Trail) → IsTrail (span_of a) (now (span_of a)) trail → AreCalls trail (a.call ∷ earlier_calls a) → DidChange setting revision trail → IsChangeDone a setting revision
unfolding IsTrail
change-done a setting revision trail is calls d =
    let asked = write_back (reply_of d.store (Get (key_changed setting))) d.new in
    let rest : Trail = Did d.moment d.store (Get (key_changed setting)) ∷ d.before in
    let there = subst (λ (t : Trail). IsTrail (span_of a) (now (span_of a)) t) d.is is in
    let call = latest-call a d.later d.other asked rest (subst (λ (t : Trail). AreCalls t (a.call ∷ earlier_calls a)) d.is calls) in
    let at = latest-now a d.later d.other asked rest there in
    record {
      found = reply_of d.store (Get (key_changed setting));
      last = record {
        moment = d.moment;
        read = heard (span_of a) d.moment d.store (Get (key_changed setting)) there.2.0;
        then_now = subst (λ (m : ℕ). IsNext (span_of a) d.moment m) at there.2.1;
      };
      new = d.new;
      becomes = d.becomes;
      is_written = call.is_written ∙ ap (record_written asked) d.done ∙ back-new (reply_of d.store (Get (key_changed setting))) d.new;
      is_done = call.reply ∙ ap told_of d.done;
    }

change-refused : (a : Answered) (setting : Setting) (number : ℕ) (name : List ℕ) (trail : Trail) → IsTrail (span_of a) (now (span_of a)) trail → DidRefuse setting number name trail → IsChangeRefused a setting number name
unfolding IsTrail
change-refused a setting number name trail is d =
    let there = subst (λ (t : Trail). IsTrail (span_of a) (now (span_of a)) t) d.is is in
    let at = latest-now a d.moment d.store (Get (key_changed setting)) d.before there in
    record {
      found = reply_of d.store (Get (key_changed setting));
      read = subst (λ (m : ℕ). HeardCall (span_of a) m (Get (key_changed setting)) (reply_of d.store (Get (key_changed setting)))) at (heard (span_of a) d.moment d.store (Get (key_changed setting)) there.0);
      refuses = d.refuses;
    }

-- what a change of settings is told
unfoldable pub OfChange : Setting → Trail → Answer → Type 0
OfChange setting trail (answer.Done revision) = DidChange setting revision trail
OfChange setting trail (answer.Refused number name) = DidRefuse setting number name trail
OfChange setting trail (answer.Again lost claims) = Unit {0}
OfChange setting trail answer.Full = Unit {0}
OfChange setting trail answer.Spent = Unit {0}
OfChange setting trail _ = ⊥

pub told-change : (setting : Setting) → Comes (OfChange setting) [] (told_as of_admin (admin_word setting))
unfolding OfChange IsChange
told-change setting = Comes-bound (IsChange setting) (OfChange setting) (λ one. Ends (of_admin one)) (admin_word setting) [] (change-comes setting) ends
  where
    ends : (longer : Trail) (one : AdminAnswer) → IsChange setting longer one → Comes (OfChange setting) longer (Ends (of_admin one))
    ends longer (admin.Done revision) k = k
    ends longer (admin.Refused number name) k = k
    ends longer (admin.Again lost) k = tt
    ends longer admin.Full k = tt
    ends longer admin.Spent k = tt

pub done-right : (a : Answered) (setting : Setting) (revision : ℕ) (trail : Trail) → IsTrail (span_of a) (now (span_of a)) trail → AreCalls trail (a.call ∷ earlier_calls a) → OfChange setting trail (answer.Done revision) → IsChangeDone a setting revision
unfolding OfChange
done-right a setting revision trail is calls k = change-done a setting revision trail is calls k

pub refused-right : (a : Answered) (setting : Setting) (number : ℕ) (name : List ℕ) (trail : Trail) → IsTrail (span_of a) (now (span_of a)) trail → OfChange setting trail (answer.Refused number name) → IsChangeRefused a setting number name
unfolding OfChange
refused-right a setting number name trail is k = change-refused a setting number name trail is k

-- ---- the release of an affinity

deleted-none : (a : Answered) (node : List ℕ) (cidr : CidrValue) (mark revision moment : ℕ) (store : Datastore) → seen_at (span_of a) (moment + 1) ≡ behind store (Delete (key.Affinity node cidr) mark) → moment ≡ now_of a → reply_of store (Delete (key.Affinity node cidr) mark) ≡ Can revision
    → row_of (key.Affinity node cidr) (seen_now (span_of a)).rows ≡ None
deleted-none a node cidr mark revision moment store left at done =
    let asked = Delete (key.Affinity node cidr) mark in
    let after_now : now (span_of a) ≡ moment + 1 = omega (arith, at) in
    let same : seen_now (span_of a) ≡ behind store asked = sym (seen-now (span_of a)) ∙ ap (λ (m : ℕ). seen_at (span_of a) m) after_now ∙ left in
    ap (λ (s : Datastore). row_of (key.Affinity node cidr) s.rows) same
    ∙ ap (λ (said : Said). row_of (key.Affinity node cidr) (store_with (write_granted asked said) store).rows) done
    ∙ row_of-without_row (key.Affinity node cidr) store.rows

release-done : (a : Answered) (node : List ℕ) (cidr : CidrValue) (trail : Trail) → IsConsistent a.base.store → Lawful a.base (history_of a) → IsTrail (span_of a) (now (span_of a)) trail → AreCalls trail (a.call ∷ earlier_calls a) → DidRelease (record { node = node; block = cidr }) trail → IsReleased a node cidr
unfolding IsTrail
release-done a node cidr trail consistent lawful is calls d =
    let deletes = Delete (key.Affinity node cidr) d.mark in
    let marks = Update (record_of.Affinity (affinity node cidr PendingDeletion)) d.old in
    let rest : Trail = Did d.bared_at d.bared_in (baring node cidr d.read) ∷ d.between in
    let there = subst (λ (t : Trail). IsTrail (span_of a) (now (span_of a)) t) d.is is in
    let call = latest-call a d.deleted_at d.deleted_in deletes rest (subst (λ (t : Trail). AreCalls t (a.call ∷ earlier_calls a)) d.is calls) in
    let at = latest-now a d.deleted_at d.deleted_in deletes rest there in
    let (until, marked) = part-of (span_of a) (Did d.marked_at d.marked_in marks ∷ d.earlier) d.between d.bared_at d.since there.2.2 in
    let none = deleted-none a node cidr d.mark d.revision d.deleted_at d.deleted_in there.0.behind_it at d.is_deleted in
    record {
      mark = d.mark;
      revision = d.revision;
      marked = record {
        moment = d.marked_at;
        c = marked.0.c;
        in_span = marked.0.in_span;
        revision = d.old;
        is_update = marked.0.is_call;
        is_marking = marked.0.is_written ∙ ap (record_written marks) d.is_mark;
        is_mark = marked.0.is_reply ∙ ap told_of d.is_mark;
      };
      deletes = call.call;
      is_done = call.reply ∙ ap told_of d.is_deleted;
      bare = λ b has own.
          let agrees = (consistent_law a.base (history_of a) consistent lawful).agrees in
          let (state, (revision, row)) = agrees.of_block cidr node (b, has, own) in
          let both : None ≡ Some (revision, record_of.Affinity (affinity node cidr state)) = sym none ∙ row in
          absurd (cc both);
    }

release-missed : (a : Answered) (node : List ℕ) (cidr : CidrValue) (moment : ℕ) (trail : Trail) → IsTrail (span_of a) (now (span_of a)) trail → DidMiss (record { node = node; block = cidr }) moment trail → HasNoAffinity a node cidr moment
unfolding IsTrail
release-missed a node cidr moment trail is d =
    let there = subst (λ (t : Trail). IsTrail (span_of a) (now (span_of a)) t) d.is is in
    subst (λ (said : Said). HeardCall (span_of a) moment (Get (key.Affinity node cidr)) said) (by (row_of (key.Affinity node cidr) d.store.rows) refl d.none) (heard (span_of a) moment d.store (Get (key.Affinity node cidr)) there.0)
  where
    by : (o : Option (ℕ × Record)) → row_of (key.Affinity node cidr) d.store.rows ≡ o → affinity_said (reply_to_get o) ≡ None → reply_to_get o ≡ Missing
    by None e none = refl
    by (Some (revision, record_of.Affinity found)) e none = absurd (cc none)
    by (Some (revision, record_of.Config config)) e none = let k = found-key d.store (key.Affinity node cidr) revision (record_of.Config config) e in absurd (cc k)
    by (Some (revision, record_of.Pools pools)) e none = let k = found-key d.store (key.Affinity node cidr) revision (record_of.Pools pools) e in absurd (cc k)
    by (Some (revision, record_of.Reservations list)) e none = let k = found-key d.store (key.Affinity node cidr) revision (record_of.Reservations list) e in absurd (cc k)
    by (Some (revision, record_of.Block b)) e none = let k = found-key d.store (key.Affinity node cidr) revision (record_of.Block b) e in absurd (cc k)
    by (Some (revision, record_of.Handle handle)) e none = let k = found-key d.store (key.Affinity node cidr) revision (record_of.Handle handle) e in absurd (cc k)

unfoldable pub OfRelease : List ℕ → CidrValue → Trail → Answer → Type 0
OfRelease node cidr trail answer.Released = DidRelease (record { node = node; block = cidr }) trail
OfRelease node cidr trail (answer.NoAffinity moment) = DidMiss (record { node = node; block = cidr }) moment trail
OfRelease node cidr trail (answer.Again lost claims) = Unit {0}
OfRelease node cidr trail answer.Full = Unit {0}
OfRelease node cidr trail answer.Spent = Unit {0}
OfRelease node cidr trail _ = ⊥

pub told-release : (node : List ℕ) (cidr : CidrValue) → Comes (OfRelease node cidr) [] (told_as of_release (release node cidr))
unfolding OfRelease IsRelease
told-release node cidr = Comes-bound (IsRelease (record { node = node; block = cidr })) (OfRelease node cidr) (λ one. Ends (of_release one)) (release node cidr) [] (release-comes node cidr) ends
  where
    ends : (longer : Trail) (one : ReleaseAnswer) → IsRelease (record { node = node; block = cidr }) longer one → Comes (OfRelease node cidr) longer (Ends (of_release one))
    ends longer released.Released k = k
    ends longer (released.NoAffinity moment) k = k
    ends longer (released.Again lost) k = tt
    ends longer released.Full k = tt
    ends longer released.Spent k = tt

pub released-right : (a : Answered) (node : List ℕ) (cidr : CidrValue) (trail : Trail) → IsConsistent a.base.store → Lawful a.base (history_of a) → IsTrail (span_of a) (now (span_of a)) trail → AreCalls trail (a.call ∷ earlier_calls a) → OfRelease node cidr trail answer.Released → IsReleased a node cidr
unfolding OfRelease
released-right a node cidr trail c h is calls k = release-done a node cidr trail c h is calls k

pub missed-right : (a : Answered) (node : List ℕ) (cidr : CidrValue) (moment : ℕ) (trail : Trail) → IsTrail (span_of a) (now (span_of a)) trail → OfRelease node cidr trail (answer.NoAffinity moment) → HasNoAffinity a node cidr moment
unfolding OfRelease
missed-right a node cidr moment trail is k = release-missed a node cidr moment trail is k
