-- A second list of live handles was fed to a collection late enough.
use Rattle.std.proofs.Common.{◌≡◌, ◌≢◌, ℕ, ◌⊎◌, inl, inr, false, List, [], ◌∷◌, Option, Some, None, refl, sym, ◌∙◌, subst, arith, nat_lt, ltb-true, ltb-false}
use Rattle.std.specs.Prelude.{IsTrue}
use Rattle.std.proofs.lemmas.Bool.{cases_Bool}
use Rattle.ipam_model.specs.declared.answer.Answer.{Answer}
use Rattle.ipam_model.specs.declared.entry.Called.{Called}
use Rattle.ipam_model.specs.declared.entry.Entry.{Entry}
use Rattle.ipam_model.specs.declared.entry.Entry.TheVariants as entry
use Rattle.ipam_model.specs.declared.request.Request.{Request}
use Rattle.ipam_model.specs.Cluster.{RunningRequest, after, fresh_run, run_after_feed, goes_on}
use Rattle.ipam_model.specs.Course.{is_due}
use Rattle.ipam_model.specs.History.{Base, InSpan, Lawful, MayFeed, RequestSpan, begin_moment, begins, cluster_at, now, store_at}
use Rattle.ipam_laws.proofs.KeptWords.{slot-is}
use Rattle.ipam_laws.proofs.Trails.{IsTrail, begins-not, grown, in-span-earlier, now-is, span_at, trail-begins}

-- each list that was fed since was fed late enough
abbrev pub AreDue : Base → List Entry → ℕ → Request → Type 0
AreDue base history slot request =
    (moment at : ℕ) (live : List (List ℕ)) → InSpan (span_at base history slot) moment (entry.Fed slot at live) → IsTrue (is_due request at)

abbrev pub DueIn : Base → List Entry → ℕ → Option RunningRequest → Type 0
DueIn base history slot None = Unit {0}
DueIn base history slot (Some running) = AreDue base history slot running.request

-- an entry of the span is the newest, or was there before
newest-or : (span : RequestSpan) (new there : Entry) (moment : ℕ) → begins span.slot new ≡ false → InSpan (grown span new) moment there → (there ≡ new) ⊎ InSpan span moment there
newest-or span new there moment not h = elim (cases_Bool (nat_lt moment (now span))) [
  | inl early ↦ inr (in-span-earlier span new moment there not (ltb-true moment (now span) early) h)
  | inr late ↦
      let least = ltb-false moment (now span) late in
      let before = h.before_now in
      let same : moment ≡ now span = omega arith in
      inl (now-is span new there (subst (λ (m : ℕ). InSpan (grown span new) m there) same h))
]

-- at first there is the beginning alone
only-begun : (base : Base) (history : List Entry) (slot : ℕ) (request : Request) (moment at : ℕ) (live : List (List ℕ)) → InSpan (span_at base (entry.Began slot request ∷ history) slot) moment (entry.Fed slot at live) → ⊥
unfolding IsTrail
only-begun base history slot request moment at live h =
    let span = span_at base (entry.Began slot request ∷ history) slot in
    let (begun_there, next) = trail-begins base history slot request in
    elim (cases_Bool (nat_lt (begin_moment span) moment)) [
      | inl later ↦ next.nothing_between moment (entry.Fed slot at live) (ltb-true (begin_moment span) moment later) h.before_now h
      | inr not_later ↦
          let least = ltb-false (begin_moment span) moment not_later in
          let since = h.since in
          let same : moment ≡ begin_moment span = omega arith in
          let there : InSpan span (begin_moment span) (entry.Fed slot at live) = subst (λ (m : ℕ). InSpan span m (entry.Fed slot at live)) same h in
          let is : Some (entry.Fed slot at live) ≡ Some (entry.Began slot begun_there.request) = sym there.is_there ∙ begun_there.in_span.is_there in
          absurd (cc is)
    ]

pub due-skip : (base : Base) (history : List Entry) (new : Entry) (slot : ℕ) (o : Option RunningRequest) → begins slot new ≡ false → ((at : ℕ) (live : List (List ℕ)) → entry.Fed slot at live ≢ new) → DueIn base history slot o → DueIn base (new ∷ history) slot o
due-skip base history new slot None not other h = tt
due-skip base history new slot (Some running) not other h = λ moment at live there. elim (newest-or (span_at base history slot) new (entry.Fed slot at live) moment not there) [
  | inl is ↦ absurd (other at live is)
  | inr before ↦ h moment at live before
]

due-goes : (base : Base) (history : List Entry) (c : Called) (o : Option RunningRequest) (answer : Option Answer) → DueIn base history c.slot o → DueIn base (entry.Called c ∷ history) c.slot (goes_on (store_at base history) (cluster_at base history).entries answer o)
due-goes base history c o (Some told) h = tt
due-goes base history c None None h = tt
due-goes base history c (Some running) None h = due-skip base history (entry.Called c) c.slot (Some running) refl (λ at live e. cc e) h

due-fed : (base : Base) (history : List Entry) (slot at : ℕ) (live : List (List ℕ)) → MayFeed (cluster_at base history) slot at live → DueIn base history slot ((cluster_at base history).slots slot) → DueIn base (entry.Fed slot at live ∷ history) slot (run_after_feed live ((cluster_at base history).slots slot))
due-fed base history slot at live may h =
    subst (λ (o : Option RunningRequest). DueIn base (entry.Fed slot at live ∷ history) slot (run_after_feed live o)) (sym may.runs) due
  where
    before : AreDue base history slot may.running.request
    before = subst (λ (o : Option RunningRequest). DueIn base history slot o) may.runs h

    due : AreDue base (entry.Fed slot at live ∷ history) slot may.running.request
    due moment time handles there = elim (newest-or (span_at base history slot) (entry.Fed slot at live) (entry.Fed slot time handles) moment refl there) [
      | inl is ↦
          let same : time ≡ at = cc is in
          subst (λ (t : ℕ). IsTrue (is_due may.running.request t)) (sym same) may.due
      | inr early ↦ before moment time handles early
    ]

pub fed-due : (base : Base) (history : List Entry) → Lawful base history → (slot : ℕ) → DueIn base history slot ((cluster_at base history).slots slot)
unfolding Lawful cluster_at after
fed-due base [] h slot = tt
fed-due base (entry.Began other request ∷ history) h slot =
    slot-is (DueIn base (entry.Began other request ∷ history) slot) other slot (fresh_run request) (cluster_at base history).slots
    (λ own. subst (λ (s : ℕ). DueIn base (entry.Began other request ∷ history) s (fresh_run request)) (sym own) (λ moment at live there. absurd (only-begun base history other request moment at live there)))
    (λ differ. due-skip base history (entry.Began other request) slot ((cluster_at base history).slots slot) (begins-not other slot differ) (λ at live e. cc e) (fed-due base history h.0 slot))
fed-due base (entry.Fed other at live ∷ history) h slot =
    slot-is (DueIn base (entry.Fed other at live ∷ history) slot) other slot (run_after_feed live ((cluster_at base history).slots other)) (cluster_at base history).slots
    (λ own. subst (λ (s : ℕ). DueIn base (entry.Fed other at live ∷ history) s (run_after_feed live ((cluster_at base history).slots other))) (sym own)
    (due-fed base history other at live h.1 (fed-due base history h.0 other)))
    (λ differ. due-skip base history (entry.Fed other at live) slot ((cluster_at base history).slots slot) refl (λ time handles e. differ (cc e)) (fed-due base history h.0 slot))
fed-due base (entry.Stopped other ∷ history) h slot =
    slot-is (DueIn base (entry.Stopped other ∷ history) slot) other slot None (cluster_at base history).slots
    (λ own. tt)
    (λ differ. due-skip base history (entry.Stopped other) slot ((cluster_at base history).slots slot) refl (λ at live e. cc e) (fed-due base history h.0 slot))
fed-due base (entry.Called c ∷ history) h slot =
    slot-is (DueIn base (entry.Called c ∷ history) slot) c.slot slot (goes_on (store_at base history) (cluster_at base history).entries c.answer ((cluster_at base history).slots c.slot)) (cluster_at base history).slots
    (λ own. subst (λ (s : ℕ). DueIn base (entry.Called c ∷ history) s (goes_on (store_at base history) (cluster_at base history).entries c.answer ((cluster_at base history).slots c.slot))) (sym own)
    (due-goes base history c ((cluster_at base history).slots c.slot) c.answer (fed-due base history h.0 c.slot)))
    (λ differ. due-skip base history (entry.Called c) slot ((cluster_at base history).slots slot) refl (λ at live e. cc e) (fed-due base history h.0 slot))
