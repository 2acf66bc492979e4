-- A span as it was before one of its moments.
use Rattle.std.proofs.Common.{◌≡◌, ℕ, ◌+◌, ◌-◌, ◌<◌, ◌≤◌, ◌⊎◌, inl, inr, Bool, false, cond, List, [], ◌∷◌, length, drop, Option, Some, None, refl, sym, ap, ◌∙◌, subst, arith}
use Rattle.std.specs.Prelude.{option_map}
use Rattle.std.proofs.lemmas.Bool.{cases_Bool, eqb-false}
use Rattle.ipam_records.specs.declared.call.Call.{Call}
use Rattle.ipam_records.specs.Datastore.{Datastore}
use Rattle.ipam_model.specs.declared.answer.Answer.{Answer}
use Rattle.ipam_model.specs.declared.entry.Called.{Called}
use Rattle.ipam_model.specs.declared.entry.Entry.{Entry}
use Rattle.ipam_model.specs.declared.entry.Entry.TheVariants as entry
use Rattle.ipam_model.specs.declared.request.Request.{Request}
use Rattle.ipam_model.specs.Cluster.{RunningRequest, after, fresh_run, run_after_feed, goes_on}
use Rattle.ipam_model.specs.History.{Base, InSpan, RequestSpan, before, begin_moment, begins, cluster_at, moment_of, now, since_begin, store_at}
use Rattle.ipam_model.specs.Moments.{IsNext, request_in}
use Rattle.ipam_laws.proofs.FamilyHistory.{fed-not-called, none-first, three}
use Rattle.ipam_laws.proofs.KeptWords.{slot-is}
use Rattle.ipam_laws.proofs.PointTrails.{Newest}
use Rattle.ipam_laws.proofs.Trails.{Did, DidAt, Got, IsTrail, Trail, before-later, begin-later, grown, in-span-earlier, in-span-later, seen-later, span_at}

-- ---- without the newest entry

did-earlier : (span : RequestSpan) (new : Entry) (moment : ℕ) (store : Datastore) (asked : Call) → begins span.slot new ≡ false → moment < now span → DidAt (grown span new) moment store asked → DidAt span moment store asked
did-earlier span new moment store asked not early h = record {
  c = h.c;
  in_span = in-span-earlier span new moment (entry.Called h.c) not early h.in_span;
  well = h.well;
  is_call = h.is_call;
  is_reply = h.is_reply;
  is_written = h.is_written;
  before_it = sym (seen-later span new moment (omega arith)) ∙ h.before_it;
  behind_it = sym (seen-later span new (moment + 1) (omega arith)) ∙ h.behind_it;
}

next-earlier : (span : RequestSpan) (new : Entry) (first second : ℕ) → begins span.slot new ≡ false → IsNext (grown span new) first second → IsNext span first second
next-earlier span new first second not h = record {
  behind = h.behind;
  nothing_between = λ k there above below inside. h.nothing_between k there above below (in-span-later span new k there not inside);
}

trail-earlier : (span : RequestSpan) (new : Entry) (trail : Trail) (upto : ℕ) → begins span.slot new ≡ false → upto ≤ now span → IsTrail (grown span new) upto trail → IsTrail span upto trail
unfolding IsTrail
trail-earlier span new [] upto not early h =
    let begin = begin-later span new not in
    let below = h.1.behind in (
      record {
        request = h.0.request;
        in_span = in-span-earlier span new (begin_moment span) (entry.Began span.slot h.0.request) not (omega (arith, begin))
            (subst (λ (m : ℕ). InSpan (grown span new) m (entry.Began span.slot h.0.request)) begin h.0.in_span);
      },
      next-earlier span new (begin_moment span) upto not (subst (λ (m : ℕ). IsNext (grown span new) m upto) begin h.1),
    )
trail-earlier span new (Did moment store asked ∷ trail) upto not early h =
    let below = h.1.behind in (
      did-earlier span new moment store asked not (omega arith) h.0,
      next-earlier span new moment upto not h.1,
      trail-earlier span new trail moment not (omega arith) h.2,
    )
trail-earlier span new (Got moment at live ∷ trail) upto not early h =
    let below = h.1.behind in (
      in-span-earlier span new moment (entry.Fed span.slot at live) not (omega arith) h.0,
      next-earlier span new moment upto not h.1,
      trail-earlier span new trail moment not (omega arith) h.2,
    )

-- ---- the request that runs

abbrev request_at : Option RunningRequest → Option Request
request_at o = option_map (λ (r : RunningRequest). r.request) o

fed-request : (live : List (List ℕ)) (o : Option RunningRequest) (request : Request) → request_at (run_after_feed live o) ≡ Some request → request_at o ≡ Some request
fed-request live None request e = e
fed-request live (Some running) request e = e

goes-request : (store : Datastore) (moment : ℕ) (answer : Option Answer) (o : Option RunningRequest) (request : Request) → request_at (goes_on store moment answer o) ≡ Some request → request_at o ≡ Some request
goes-request store moment (Some answer) o request e = absurd (cc e)
goes-request store moment None None request e = e
goes-request store moment None (Some running) request e = e

runs-earlier : (base : Base) (history : List Entry) (new : Entry) (slot : ℕ) (request : Request) → begins slot new ≡ false → request_in (cluster_at base (new ∷ history)) slot ≡ Some request → request_in (cluster_at base history) slot ≡ Some request
unfolding cluster_at after
runs-earlier base history (entry.Began other begun_there) slot request not =
    slot-is (λ o. request_at o ≡ Some request → request_in (cluster_at base history) slot ≡ Some request) other slot (fresh_run begun_there) (cluster_at base history).slots
    (λ own e. absurd (eqb-false other slot not (sym own))) (λ differ e. e)
runs-earlier base history (entry.Fed other at live) slot request not =
    slot-is (λ o. request_at o ≡ Some request → request_in (cluster_at base history) slot ≡ Some request) other slot (run_after_feed live ((cluster_at base history).slots other)) (cluster_at base history).slots
    (λ own e. subst (λ (s : ℕ). request_in (cluster_at base history) s ≡ Some request) (sym own) (fed-request live ((cluster_at base history).slots other) request e)) (λ differ e. e)
runs-earlier base history (entry.Stopped other) slot request not =
    slot-is (λ o. request_at o ≡ Some request → request_in (cluster_at base history) slot ≡ Some request) other slot None (cluster_at base history).slots
    (λ own e. absurd (cc e)) (λ differ e. e)
runs-earlier base history (entry.Called c) slot request not =
    slot-is (λ o. request_at o ≡ Some request → request_in (cluster_at base history) slot ≡ Some request) c.slot slot (goes_on (store_at base history) (cluster_at base history).entries c.answer ((cluster_at base history).slots c.slot)) (cluster_at base history).slots
    (λ own e. subst (λ (s : ℕ). request_in (cluster_at base history) s ≡ Some request) (sym own) (goes-request (store_at base history) (cluster_at base history).entries c.answer ((cluster_at base history).slots c.slot) request e)) (λ differ e. e)

-- ---- before a moment

-- the span before the moment, with its trail and the request that ran
pub record WasBefore (base : Base) (slot : ℕ) (history : List Entry) (moment : ℕ) (request : Request) (trail : Trail) : Type 0 where
  pub now_is : moment_of base (before base history moment) ≡ moment
  pub is_trail : IsTrail (span_at base (before base history moment) slot) moment trail
  pub runs : request_in (cluster_at base (before base history moment)) slot ≡ Some request

pub was-before : (base : Base) (slot : ℕ) (history : List Entry) (moment : ℕ) (request : Request) (trail : Trail) → begin_moment (span_at base history slot) < moment → moment ≤ moment_of base history
    → IsTrail (span_at base history slot) moment trail → request_in (cluster_at base history) slot ≡ Some request → WasBefore base slot history moment request trail
unfolding since_begin
was-before base slot history moment request trail begun_before early h runs = by history (three moment (moment_of base history)) begun_before early h runs
  where
    here : (history : List Entry) → moment ≡ moment_of base history → IsTrail (span_at base history slot) moment trail → request_in (cluster_at base history) slot ≡ Some request → WasBefore base slot history moment request trail
    here history same h runs =
        let none : moment_of base history - moment ≡ 0 = omega (arith, same) in
        let whole : before base history moment ≡ history = ap (λ n. drop n history) none in
        record {
          now_is = ap (moment_of base) whole ∙ sym same;
          is_trail = subst (λ (l : List Entry). IsTrail (span_at base l slot) moment trail) (sym whole) h;
          runs = subst (λ (l : List Entry). request_in (cluster_at base l) slot ≡ Some request) (sym whole) runs;
        }

    further : (new : Entry) (history : List Entry) → moment < moment_of base (new ∷ history) → WasBefore base slot history moment request trail → WasBefore base slot (new ∷ history) moment request trail
    further new history below w =
        let same = before-later (span_at base history slot) new moment (omega arith) in
        record {
          now_is = ap (moment_of base) same ∙ w.now_is;
          is_trail = subst (λ (l : List Entry). IsTrail (span_at base l slot) moment trail) (sym same) w.is_trail;
          runs = subst (λ (l : List Entry). request_in (cluster_at base l) slot ≡ Some request) (sym same) w.runs;
        }

    by : (history : List Entry) → (moment < moment_of base history) ⊎ ((moment ≡ moment_of base history) ⊎ (moment_of base history < moment)) → begin_moment (span_at base history slot) < moment → moment ≤ moment_of base history
        → IsTrail (span_at base history slot) moment trail → request_in (cluster_at base history) slot ≡ Some request → WasBefore base slot history moment request trail
    by history (inr (inl same)) since early h runs = here history same h runs
    by history (inr (inr late)) since early h runs = absurd (omega arith)
    by [] (inl below) since early h runs = absurd (omega arith)
    by (new ∷ history) (inl below) since early h runs = elim (cases_Bool (begins slot new)) [
      | inl starts ↦
          let one : length (since_begin slot (new ∷ history)) ≡ 1 = ap (λ (b : Bool). length (new ∷ cond b [] (since_begin slot history))) starts in
          absurd (omega (arith, one))
      | inr not ↦
          let span = span_at base history slot in
          let begin = begin-later span new not in
          further new history below
          (by history (three moment (moment_of base history)) (omega (arith, begin)) (omega arith) (trail-earlier span new trail moment not (omega arith) h) (runs-earlier base history new slot request not runs))
    ]

-- ---- the newest step

pub record NewestAt (span : RequestSpan) (upto : ℕ) (trail : Trail) (newest : Newest trail) : Type 0 where
  pub did : DidAt span newest.moment newest.store newest.asked
  pub next : IsNext span newest.moment upto
  pub rest : IsTrail span newest.moment newest.rest

pub newest-at : (span : RequestSpan) (upto : ℕ) (trail : Trail) (newest : Newest trail) → IsTrail span upto trail → NewestAt span upto trail newest
unfolding IsTrail
newest-at span upto trail newest h =
    let there = subst (λ (t : Trail). IsTrail span upto t) newest.is h in record { did = there.0; next = there.1; rest = there.2 }

-- the step of the latest call
pub record LatestStep (span : RequestSpan) (trail : Trail) (moment : ℕ) : Type 0 where
  pub newest : Newest trail
  pub same : newest.moment ≡ moment

pub latest-step : (span : RequestSpan) (trail : Trail) (upto : ℕ) → IsTrail span upto trail → (moment : ℕ) → IsNext span moment upto → (c : Called) → InSpan span moment (entry.Called c) → LatestStep span trail moment
unfolding IsTrail
latest-step span [] upto h moment next c inside = absurd (none-first span moment upto c h.0 h.1 next.behind inside)
latest-step span (Did m store asked ∷ trail) upto h moment next c inside = elim (three moment m) [
  | inl sooner ↦ absurd (next.nothing_between m (entry.Called h.0.c) sooner h.1.behind h.0.in_span)
  | inr (inl same) ↦ record { newest = record { moment = m; store = store; asked = asked; rest = trail; is = refl }; same = sym same }
  | inr (inr later) ↦ absurd (h.1.nothing_between moment (entry.Called c) later next.behind inside)
]
latest-step span (Got m at live ∷ trail) upto h moment next c inside = elim (three moment m) [
  | inl sooner ↦ absurd (next.nothing_between m (entry.Fed span.slot at live) sooner h.1.behind h.0)
  | inr (inl same) ↦ absurd (fed-not-called span m at live c h.0 (subst (λ (k : ℕ). InSpan span k (entry.Called c)) same inside))
  | inr (inr later) ↦ absurd (h.1.nothing_between moment (entry.Called c) later next.behind inside)
]

-- a trail comes after the beginning
pub begins-below : (span : RequestSpan) (trail : Trail) (upto : ℕ) → IsTrail span upto trail → begin_moment span < upto
unfolding IsTrail
begins-below span [] upto h = h.1.behind
begins-below span (Did m store asked ∷ trail) upto h = let early = begins-below span trail m h.2 in let next = h.1.behind in omega arith
begins-below span (Got m at live ∷ trail) upto h = let early = begins-below span trail m h.2 in let next = h.1.behind in omega arith
