-- What the answers of a word say of the calls that led to them, and that it holds in each history.
use Rattle.std.proofs.Common.{◌≡◌, ◌≢◌, ℕ, suc, ◌+◌, ◌-◌, ◌<◌, ◌≤◌, inl, inr, Bool, true, false, cond, List, [], ◌∷◌, length, drop, Option, Some, None, refl, sym, ap, ◌∙◌, subst, arith, eqb-true, nat_lt, ltb-true, ltb-false}
use Rattle.std.specs.Prelude.{◌==◌, IsTrue, option_map}
use Rattle.std.proofs.lemmas.Bool.{cases_Bool, eqb-false}
use Rattle.ipam_records.specs.declared.call.Call.{Call}
use Rattle.ipam_records.specs.declared.key.Key.{Key}
use Rattle.ipam_records.specs.declared.record.Record.{Record}
use Rattle.ipam_records.specs.Datastore.{Datastore, reply_of}
use Rattle.ipam_records.specs.Sound.{IsDatastore}
use Rattle.ipam_records.specs.Label.{CallLabel}
use Rattle.ipam_records.specs.Said.{Said}
use Rattle.ipam_records.specs.Word.{Word, Ends, Asks, Waits, bound, answer_in, after_feed, waits}
use Rattle.ipam_model.specs.declared.answer.Answer.{Answer}
use Rattle.ipam_model.specs.declared.entry.Called.{Called}
use Rattle.ipam_model.specs.declared.entry.Entry.{Entry}
use Rattle.ipam_model.specs.declared.entry.Entry.TheVariants as entry
use Rattle.ipam_model.specs.declared.entry.Fate.{Fate}
use Rattle.ipam_model.specs.declared.entry.Fate.TheVariants.{Well, Before, After}
use Rattle.ipam_model.specs.declared.request.Request.{Request}
use Rattle.ipam_model.specs.AffinityLaw.{HasAt}
use Rattle.ipam_model.specs.Answered.{Answered, earlier_calls, history_of, span_of}
use Rattle.ipam_model.specs.Cluster.{RunningRequest, after, word_after_reply, fresh_run, call_entry, call_made, run_after_feed, goes_on, record_written, store_after, store_with}
use Rattle.ipam_model.specs.History.{Base, InSpan, Lawful, RequestSpan, before, begin_moment, begins, cluster_at, entry_at, moment_of, now, seen_at, since_begin, slot_of_entry, store_at}
use Rattle.ipam_model.specs.Moments.{IsNext, request_in}
use Rattle.ipam_model.specs.Named.{name_of, told_of}
use Rattle.ipam_model.specs.Requests.{word_of}
use Rattle.ipam_model.specs.Tries.{calls_of}
use Rattle.ipam_laws.proofs.KeptWords.{slot-is}
use Rattle.ipam_laws.proofs.Lift.{behind}
use Rattle.ipam_laws.proofs.OneRecord.{one_record}
use Rattle.ipam_laws.proofs.StandsFor.{entries-are}
use Rattle.ipam_laws.proofs.StoreSteps.{write_told-granted}

-- ---- what a request did

-- a call at its moment, over the store that answered it; or a second list that was fed
pub data Step : Type 0 where
  Did : (moment : ℕ) (store : Datastore) (asked : Call) → Step
  Got : (moment at : ℕ) (live : List (List ℕ)) → Step

-- the steps of a request, the newest first
abbrev pub Trail : Type 0
Trail = List Step

-- where a row of the one is found in the other, it has the same record
abbrev pub AgreesWith : Datastore → Datastore → Type 0
AgreesWith old new = (key : Key) (revision : ℕ) (one other : Record) → HasAt old key revision one → HasAt new key revision other → one ≡ other

-- the store agrees with each one of the trail
unfoldable pub AgreesAll : Datastore → Trail → Type 0
AgreesAll store [] = Unit {0}
AgreesAll store (Did moment old asked ∷ trail) = AgreesWith old store × AgreesAll store trail
AgreesAll store (Got moment at live ∷ trail) = AgreesAll store trail

-- Whatever stores answer the calls, each answer has this of the trail that led to it.
abbrev pub Comes : {A : Type 0} → (Trail → A → Type 0) → Trail → Word A → Type 0
Comes Q trail (Ends answer) = Q trail answer
Comes Q trail (Asks label asked next) =
    (moment : ℕ) (store : Datastore) → AgreesAll store trail
    → Comes Q (Did moment store asked ∷ trail) (next moment (reply_of store asked))
Comes Q trail (Waits next) =
    (moment at : ℕ) (live : List (List ℕ)) → Comes Q (Got moment at live ∷ trail) (next live)

pub Comes-bound : {A B : Type 0} → (R : Trail → A → Type 0) (Q : Trail → B → Type 0) (follows : A → Word B) (w : Word A) (trail : Trail) → Comes R trail w → ((longer : Trail) (a : A) → R longer a → Comes Q longer (follows a)) → Comes Q trail (bound w follows)
Comes-bound R Q follows (Ends answer) trail h k = k trail answer h
Comes-bound R Q follows (Asks label asked next) trail h k = λ moment store agrees.
    Comes-bound R Q follows (next moment (reply_of store asked)) (Did moment store asked ∷ trail) (h moment store agrees) k
Comes-bound R Q follows (Waits next) trail h k = λ moment at live.
    Comes-bound R Q follows (next live) (Got moment at live ∷ trail) (h moment at live) k

pub Comes-more : {A : Type 0} → (R Q : Trail → A → Type 0) → ((trail : Trail) (a : A) → R trail a → Q trail a) → (w : Word A) (trail : Trail) → Comes R trail w → Comes Q trail w
Comes-more R Q more (Ends answer) trail h = more trail answer h
Comes-more R Q more (Asks label asked next) trail h = λ moment store agrees.
    Comes-more R Q more (next moment (reply_of store asked)) (Did moment store asked ∷ trail) (h moment store agrees)
Comes-more R Q more (Waits next) trail h = λ moment at live.
    Comes-more R Q more (next live) (Got moment at live ∷ trail) (h moment at live)

-- ---- one entry more

abbrev pub grown : RequestSpan → Entry → RequestSpan
grown span new = record span { history = new ∷ span.history }

pub before-later : (span : RequestSpan) (new : Entry) (moment : ℕ) → moment ≤ now span → before span.base (new ∷ span.history) moment ≡ before span.base span.history moment
before-later span new moment early =
    let steps : moment_of span.base (new ∷ span.history) - moment ≡ suc (moment_of span.base span.history - moment) = omega arith in
    ap (λ n. drop n (new ∷ span.history)) steps

pub seen-later : (span : RequestSpan) (new : Entry) (moment : ℕ) → moment ≤ now span → seen_at (grown span new) moment ≡ seen_at span moment
seen-later span new moment early = ap (λ (h : List Entry). store_at span.base h) (before-later span new moment early)

entry-later : (span : RequestSpan) (new : Entry) (moment : ℕ) → moment < now span → entry_at span.base (new ∷ span.history) moment ≡ entry_at span.base span.history moment
entry-later span new moment early =
    let steps : moment_of span.base (new ∷ span.history) - (moment + 1) ≡ suc (moment_of span.base span.history - (moment + 1)) = omega arith in
    ap (λ n. first (drop n (new ∷ span.history))) steps
  where
    first : List Entry → Option Entry
    first [] = None
    first (one ∷ rest) = Some one

pub begin-later : (span : RequestSpan) (new : Entry) → begins span.slot new ≡ false → begin_moment (grown span new) ≡ begin_moment span
unfolding since_begin
begin-later span new not =
    let more : length (since_begin span.slot (new ∷ span.history)) ≡ suc (length (since_begin span.slot span.history)) =
    ap (λ (b : Bool). suc (length (cond b [] (since_begin span.slot span.history)))) not in
    omega (arith, more)

pub in-span-later : (span : RequestSpan) (new : Entry) (moment : ℕ) (there : Entry) → begins span.slot new ≡ false → InSpan span moment there → InSpan (grown span new) moment there
in-span-later span new moment there not h =
    let begin = begin-later span new not in
    let since = h.since in
    let early = h.before_now in
    record {
      since = omega (arith, begin);
      before_now = omega arith;
      is_there = entry-later span new moment h.before_now ∙ h.is_there;
      own = h.own;
    }

pub in-span-earlier : (span : RequestSpan) (new : Entry) (moment : ℕ) (there : Entry) → begins span.slot new ≡ false → moment < now span → InSpan (grown span new) moment there → InSpan span moment there
in-span-earlier span new moment there not early h =
    let begin = begin-later span new not in
    let since = h.since in
    record {
      since = omega (arith, begin);
      before_now = early;
      is_there = sym (entry-later span new moment early) ∙ h.is_there;
      own = h.own;
    }

-- the newest entry is that of the moment before
entry-now : (base : Base) (new : Entry) (history : List Entry) → entry_at base (new ∷ history) (moment_of base history) ≡ Some new
entry-now base new history =
    let none : moment_of base (new ∷ history) - (moment_of base history + 1) ≡ 0 = omega arith in
    ap (λ n. first (drop n (new ∷ history))) none
  where
    first : List Entry → Option Entry
    first [] = None
    first (one ∷ rest) = Some one

pub in-span-now : (span : RequestSpan) (new : Entry) → slot_of_entry new ≡ span.slot → InSpan (grown span new) (now span) new
unfolding since_begin
in-span-now span new own = record {
  since = since (since_begin span.slot (new ∷ span.history)) (cond (begins span.slot new) [] (since_begin span.slot span.history)) refl;
  before_now = omega arith;
  is_there = entry-now span.base new span.history;
  own = own;
}
  where
    since : (all rest : List Entry) → all ≡ new ∷ rest → moment_of span.base (new ∷ span.history) - length all ≤ moment_of span.base span.history
    since all rest e = let more = ap length e in omega (arith, more)

pub now-is : (span : RequestSpan) (new there : Entry) → InSpan (grown span new) (now span) there → there ≡ new
now-is span new there h =
    let same : Some there ≡ Some new = sym h.is_there ∙ entry-now span.base new span.history in cc same

next-later : (span : RequestSpan) (new : Entry) (first second : ℕ) → begins span.slot new ≡ false → second ≤ now span → IsNext span first second → IsNext (grown span new) first second
next-later span new first second not early h = record {
  behind = h.behind;
  nothing_between = λ k there above below inside.
      h.nothing_between k there above below (in-span-earlier span new k there not (omega arith) inside);
}

-- nothing of the slot came, so the next entry is still the slot's next
next-skip : (span : RequestSpan) (new : Entry) (first : ℕ) → begins span.slot new ≡ false → slot_of_entry new ≢ span.slot → IsNext span first (now span) → IsNext (grown span new) first (now (grown span new))
next-skip span new first not other h = record {
  behind = let k = h.behind in omega arith;
  nothing_between = between;
}
  where
    between : (k : ℕ) (there : Entry) → first < k → k < now (grown span new) → ¬ (InSpan (grown span new) k there)
    between k there above below inside = elim (cases_Bool (nat_lt k (now span))) [
      | inl early ↦
          let is = ltb-true k (now span) early in
          absurd (h.nothing_between k there above is (in-span-earlier span new k there not is inside))
      | inr late ↦
          let least = ltb-false k (now span) late in
          let same : k ≡ now span = omega arith in
          let there_now = subst (λ (m : ℕ). InSpan (grown span new) m there) same inside in
          let is = now-is span new there there_now in
          absurd (other (ap slot_of_entry (sym is) ∙ there_now.own))
    ]

next-now : (span : RequestSpan) (new : Entry) → IsNext (grown span new) (now span) (now (grown span new))
next-now span new = record { behind = omega arith; nothing_between = λ k there above below inside. absurd (omega arith) }

-- ---- the trail of a span

-- the call of the moment, which was done
pub record DidAt (span : RequestSpan) (moment : ℕ) (store : Datastore) (asked : Call) : Type 0 where
  pub c : Called
  pub in_span : InSpan span moment (entry.Called c)
  pub well : c.fate ≡ Well
  pub is_call : c.call ≡ name_of asked
  pub is_reply : c.reply ≡ told_of (reply_of store asked)
  pub is_written : c.written ≡ record_written asked (reply_of store asked)
  pub before_it : seen_at span moment ≡ store
  pub behind_it : seen_at span (moment + 1) ≡ behind store asked

-- the entry with which the span begins
pub record IsBegun (span : RequestSpan) : Type 0 where
  pub request : Request
  pub in_span : InSpan span (begin_moment span) (entry.Began span.slot request)

-- the steps are all that came in the span, up to this moment
unfoldable pub IsTrail : RequestSpan → (upto : ℕ) → Trail → Type 0
IsTrail span upto [] = IsBegun span × IsNext span (begin_moment span) upto
IsTrail span upto (Did moment store asked ∷ trail) = DidAt span moment store asked × IsNext span moment upto × IsTrail span moment trail
IsTrail span upto (Got moment at live ∷ trail) = InSpan span moment (entry.Fed span.slot at live) × IsNext span moment upto × IsTrail span moment trail

did-later : (span : RequestSpan) (new : Entry) (moment : ℕ) (store : Datastore) (asked : Call) → begins span.slot new ≡ false → DidAt span moment store asked → DidAt (grown span new) moment store asked
did-later span new moment store asked not h =
    let early = h.in_span.before_now in
    record {
      c = h.c;
      in_span = in-span-later span new moment (entry.Called h.c) not h.in_span;
      well = h.well;
      is_call = h.is_call;
      is_reply = h.is_reply;
      is_written = h.is_written;
      before_it = seen-later span new moment (omega arith) ∙ h.before_it;
      behind_it = seen-later span new (moment + 1) (omega arith) ∙ h.behind_it;
    }

begun-later : (span : RequestSpan) (new : Entry) → begins span.slot new ≡ false → IsBegun span → IsBegun (grown span new)
begun-later span new not h = record {
  request = h.request;
  in_span = subst (λ (m : ℕ). InSpan (grown span new) m (entry.Began span.slot h.request)) (sym (begin-later span new not))
      (in-span-later span new (begin_moment span) (entry.Began span.slot h.request) not h.in_span);
}

trail-later : (span : RequestSpan) (new : Entry) (trail : Trail) (upto : ℕ) → begins span.slot new ≡ false → upto ≤ now span → IsTrail span upto trail → IsTrail (grown span new) upto trail
unfolding IsTrail
trail-later span new [] upto not early h = (
  begun-later span new not h.0,
  subst (λ (m : ℕ). IsNext (grown span new) m upto) (sym (begin-later span new not)) (next-later span new (begin_moment span) upto not early h.1),
)
trail-later span new (Did moment store asked ∷ trail) upto not early h =
    let k = h.0.in_span.before_now in (
      did-later span new moment store asked not h.0,
      next-later span new moment upto not early h.1,
      trail-later span new trail moment not (omega arith) h.2,
    )
trail-later span new (Got moment at live ∷ trail) upto not early h =
    let k = h.0.before_now in (
      in-span-later span new moment (entry.Fed span.slot at live) not h.0,
      next-later span new moment upto not early h.1,
      trail-later span new trail moment not (omega arith) h.2,
    )

trail-skip : (span : RequestSpan) (new : Entry) (trail : Trail) → begins span.slot new ≡ false → slot_of_entry new ≢ span.slot → IsTrail span (now span) trail → IsTrail (grown span new) (now (grown span new)) trail
unfolding IsTrail
trail-skip span new [] not other h = (
  begun-later span new not h.0,
  subst (λ (m : ℕ). IsNext (grown span new) m (now (grown span new))) (sym (begin-later span new not)) (next-skip span new (begin_moment span) not other h.1),
)
trail-skip span new (Did moment store asked ∷ trail) not other h =
    let k = h.0.in_span.before_now in (
      did-later span new moment store asked not h.0,
      next-skip span new moment not other h.1,
      trail-later span new trail moment not (omega arith) h.2,
    )
trail-skip span new (Got moment at live ∷ trail) not other h =
    let k = h.0.before_now in (
      in-span-later span new moment (entry.Fed span.slot at live) not h.0,
      next-skip span new moment not other h.1,
      trail-later span new trail moment not (omega arith) h.2,
    )

-- the store before the next entry
pub seen-now : (span : RequestSpan) → seen_at span (now span) ≡ store_at span.base span.history
seen-now span =
    let none : moment_of span.base span.history - now span ≡ 0 = omega arith in
    ap (λ n. store_at span.base (drop n span.history)) none

-- a call that was done is the next step
trail-did : (span : RequestSpan) (c : Called) (asked : Call) (trail : Trail) → c.slot ≡ span.slot → c.fate ≡ Well → c.call ≡ name_of asked
    → c.reply ≡ told_of (reply_of (store_at span.base span.history) asked) → c.written ≡ record_written asked (reply_of (store_at span.base span.history) asked)
    → store_at span.base (entry.Called c ∷ span.history) ≡ behind (store_at span.base span.history) asked
    → IsTrail span (now span) trail → IsTrail (grown span (entry.Called c)) (now (grown span (entry.Called c))) (Did (now span) (store_at span.base span.history) asked ∷ trail)
unfolding IsTrail
trail-did span c asked trail own well call reply put next h =
    let new = entry.Called c in
    let after_now : now span + 1 ≡ now (grown span new) = omega arith in (
      record {
        c = c;
        in_span = in-span-now span new own;
        well = well;
        is_call = call;
        is_reply = reply;
        is_written = put;
        before_it = seen-later span new (now span) (omega arith) ∙ seen-now span;
        behind_it = ap (λ (m : ℕ). seen_at (grown span new) m) after_now ∙ seen-now (grown span new) ∙ next;
      },
      next-now span new,
      trail-later span new trail (now span) refl (omega arith) h,
    )

trail-got : (span : RequestSpan) (at : ℕ) (live : List (List ℕ)) (trail : Trail) → IsTrail span (now span) trail
    → IsTrail (grown span (entry.Fed span.slot at live)) (now (grown span (entry.Fed span.slot at live))) (Got (now span) at live ∷ trail)
unfolding IsTrail
trail-got span at live trail h =
    let new = entry.Fed span.slot at live in
    (in-span-now span new refl, next-now span new, trail-later span new trail (now span) refl (omega arith) h)

pub trail-begins : (base : Base) (history : List Entry) (slot : ℕ) (request : Request) → IsTrail (record { base = base; history = entry.Began slot request ∷ history; slot = slot }) (moment_of base (entry.Began slot request ∷ history)) []
unfolding IsTrail since_begin
trail-begins base history slot request =
    let itself : (slot == slot) ≡ true = from (slot == slot) refl in
    let one : length (since_begin slot (entry.Began slot request ∷ history)) ≡ 1 =
    ap (λ (b : Bool). suc (length (cond b [] (since_begin slot history)))) itself in
    let new = entry.Began slot request in
    let span = span_before_it in
    let at_now : begin_moment (grown span new) ≡ now span = omega (arith, one) in (
      record {
        request = request;
        in_span = subst (λ (m : ℕ). InSpan (grown span new) m new) (sym at_now) (in-span-now span new refl);
      },
      record { behind = omega (arith, one); nothing_between = λ k there above below inside. absurd (omega (arith, one)) },
    )
  where
    span_before_it : RequestSpan
    span_before_it = record { base = base; history = history; slot = slot }

    from : (b : Bool) → (slot == slot) ≡ b → (slot == slot) ≡ true
    from true e = e
    from false e = absurd (eqb-false slot slot e refl)

-- the store at hand agrees with those of the trail
pub trail-agrees : (span : RequestSpan) → IsDatastore span.base.store → Lawful span.base span.history → (trail : Trail) (upto : ℕ) → IsTrail span upto trail → AgreesAll (store_at span.base span.history) trail
unfolding IsTrail AgreesAll
trail-agrees span sound h [] upto is = tt
trail-agrees span sound h (Did moment store asked ∷ trail) upto is = (
  λ key revision one other before_it at_now.
      one_record span.base span.history sound h moment (now span) key revision one other
      (subst (λ (s : Datastore). HasAt s key revision one) (sym is.0.before_it) before_it)
      (subst (λ (s : Datastore). HasAt s key revision other) (sym (seen-now span)) at_now),
  trail-agrees span sound h trail moment is.2,
)
trail-agrees span sound h (Got moment at live ∷ trail) upto is = trail-agrees span sound h trail moment is.2

-- ---- over a history

-- the call that an entry tells of, where the word asked for one
pub record IsMade (c : Called) (store : Datastore) (moment : ℕ) (word : Word Answer) : Type 0 where
  pub label : CallLabel
  pub asked : Call
  pub next : ℕ → Said → Word Answer
  pub is_word : word ≡ Asks label asked next
  pub is_call : call_made c.slot c.fate asked (reply_of store asked) (answer_in (next moment (reply_of store asked))) ≡ c

pub made : (c : Called) (store : Datastore) (moment : ℕ) (word : Word Answer) → call_entry c.slot c.fate store moment word ≡ Some c → IsMade c store moment word
made c store moment (Ends answer) e = absurd (cc e)
made c store moment (Waits next) e = absurd (cc e)
made c store moment (Asks label asked next) e = record { label = label; asked = asked; next = next; is_word = refl; is_call = cc e }

-- what a call that was done says of its entry
pub record IsWell (c : Called) (store : Datastore) (asked : Call) (answer : Option Answer) : Type 0 where
  pub call : c.call ≡ name_of asked
  pub reply : c.reply ≡ told_of (reply_of store asked)
  pub is_written : c.written ≡ record_written asked (reply_of store asked)
  pub answers : c.answer ≡ answer
  pub next : store_after c store ≡ behind store asked

pub well : (c : Called) (store : Datastore) (asked : Call) (answer : Option Answer) → call_made c.slot c.fate asked (reply_of store asked) answer ≡ c → c.fate ≡ Well → IsWell c store asked answer
well c store asked answer e fate =
    let is : call_made c.slot Well asked (reply_of store asked) answer ≡ c = ap (λ (f : Fate). call_made c.slot f asked (reply_of store asked) answer) (sym fate) ∙ e in
    subst (λ (x : Called). IsWell x store asked answer) is (record {
      call = refl;
      reply = refl;
      is_written = refl;
      answers = refl;
      next = ap (λ w. store_with w store) (write_told-granted asked (reply_of store asked));
    })

-- a request that goes on was not failed
pub goes-well : (fate : Fate) (slot : ℕ) (asked : Call) (reply : Said) (answer : Option Answer) (c : Called) → call_made slot fate asked reply answer ≡ c → c.answer ≡ None → fate ≡ Well
goes-well Well slot asked reply answer c e none = refl
goes-well Before slot asked reply answer c e none = let f = ap (λ (x : Called). x.answer) e ∙ none in absurd (cc f)
goes-well After slot asked reply answer c e none = let f = ap (λ (x : Called). x.answer) e ∙ none in absurd (cc f)

-- ---- the calls of a slot

-- the entry is that of the step's call
pub record IsCallOf (c : Called) (store : Datastore) (asked : Call) : Type 0 where
  pub call : c.call ≡ name_of asked
  pub reply : c.reply ≡ told_of (reply_of store asked)
  pub is_written : c.written ≡ record_written asked (reply_of store asked)

-- the calls are those of the trail's steps
unfoldable pub AreCalls : Trail → List Called → Type 0
AreCalls [] calls = calls ≡ []
AreCalls (Did moment store asked ∷ trail) calls = (c : Called) × (rest : List Called) × (calls ≡ c ∷ rest) × IsCallOf c store asked × AreCalls trail rest
AreCalls (Got moment at live ∷ trail) calls = AreCalls trail calls

abbrev slot_calls : ℕ → List Entry → List Called
slot_calls slot history = calls_of slot (since_begin slot history)

same-slot : (slot : ℕ) → (slot == slot) ≡ true
same-slot slot = from (slot == slot) refl
  where
    from : (b : Bool) → (slot == slot) ≡ b → (slot == slot) ≡ true
    from true e = e
    from false e = absurd (eqb-false slot slot e refl)

calls-begun : (slot : ℕ) (request : Request) (history : List Entry) → slot_calls slot (entry.Began slot request ∷ history) ≡ []
unfolding since_begin
calls-begun slot request history = ap (λ (b : Bool). calls_of slot (cond b [] (since_begin slot history))) (same-slot slot)

calls-called : (c : Called) (history : List Entry) → slot_calls c.slot (entry.Called c ∷ history) ≡ c ∷ slot_calls c.slot history
unfolding since_begin
calls-called c history = ap (λ (b : Bool). cond b (c ∷ slot_calls c.slot history) (slot_calls c.slot history)) (same-slot c.slot)

calls-skip : (slot : ℕ) (new : Entry) (history : List Entry) → begins slot new ≡ false → slot_of_entry new ≢ slot → slot_calls slot (new ∷ history) ≡ slot_calls slot history
unfolding since_begin
calls-skip slot (entry.Began other request) history not differ = ap (λ (b : Bool). calls_of slot (cond b [] (since_begin slot history))) not
calls-skip slot (entry.Fed other at live) history not differ = refl
calls-skip slot (entry.Stopped other) history not differ = refl
calls-skip slot (entry.Called c) history not differ = ap (λ (b : Bool). cond b (c ∷ slot_calls slot history) (slot_calls slot history)) (other (c.slot == slot) refl)
  where
    other : (b : Bool) → (c.slot == slot) ≡ b → (c.slot == slot) ≡ false
    other true e = absurd (differ (eqb-true c.slot slot e))
    other false e = e

abbrev pub span_at : Base → List Entry → ℕ → RequestSpan
span_at base history slot = record { base = base; history = history; slot = slot }

pub begins-not : (other slot : ℕ) → slot ≢ other → (other == slot) ≡ false
begins-not other slot differ = from (other == slot) refl
  where
    from : (b : Bool) → (other == slot) ≡ b → (other == slot) ≡ false
    from true e = absurd (differ (sym (eqb-true other slot e)))
    from false e = e

-- Of a request this holds: of what is left of its word, and of the trail that led there.
abbrev pub IsLeft : Type 1
IsLeft = Request → Trail → Word Answer → Type 0

-- it holds at first, and goes on holding
pub record Lasts (P : IsLeft) : Type 0 where
  pub starts : (request : Request) → P request [] (word_of request)
  pub hears : (request : Request) (trail : Trail) (label : CallLabel) (asked : Call) (next : ℕ → Said → Word Answer) → P request trail (Asks label asked next)
      → (moment : ℕ) (store : Datastore) → AgreesAll store trail → P request (Did moment store asked ∷ trail) (next moment (reply_of store asked))
  pub feeds : (request : Request) (trail : Trail) (next : List (List ℕ) → Word Answer) → P request trail (Waits next)
      → (moment at : ℕ) (live : List (List ℕ)) → P request (Got moment at live ∷ trail) (next live)

module _ (P : IsLeft) (lasts : Lasts P) where
  -- what is left comes to what the request's word comes to
  pub record RunComes (base : Base) (history : List Entry) (slot : ℕ) (running : RunningRequest) : Type 0 where
    pub trail : Trail
    pub is_trail : IsTrail (span_at base history slot) (moment_of base history) trail
    pub calls : AreCalls trail (slot_calls slot history)
    pub comes : P running.request trail running.word

  abbrev pub SlotComes : Base → List Entry → ℕ → Option RunningRequest → Type 0
  SlotComes base history slot None = Unit {0}
  SlotComes base history slot (Some running) = RunComes base history slot running

  skip : (base : Base) (history : List Entry) (new : Entry) (slot : ℕ) (o : Option RunningRequest) → begins slot new ≡ false → slot_of_entry new ≢ slot → SlotComes base history slot o → SlotComes base (new ∷ history) slot o
  skip base history new slot None not other h = tt
  skip base history new slot (Some running) not other h = record {
    trail = h.trail;
    is_trail = trail-skip (span_at base history slot) new h.trail not other h.is_trail;
    calls = subst (λ (l : List Called). AreCalls h.trail l) (sym (calls-skip slot new history not other)) h.calls;
    comes = h.comes;
  }

  -- a call that is done goes on with one step more
  pub record CallComes (base : Base) (history : List Entry) (c : Called) (running : RunningRequest) : Type 0 where
    pub trail : Trail
    pub is_trail : IsTrail (span_at base (entry.Called c ∷ history) c.slot) (moment_of base (entry.Called c ∷ history)) trail
    pub calls : AreCalls trail (c ∷ slot_calls c.slot history)
    pub comes : P running.request trail (word_after_reply (store_at base history) (cluster_at base history).entries running.word)
    pub answers : c.answer ≡ answer_in (word_after_reply (store_at base history) (cluster_at base history).entries running.word)

  pub call-comes : (base : Base) (history : List Entry) → IsDatastore base.store → Lawful base history → (c : Called) (running : RunningRequest) → c.fate ≡ Well
      → call_entry c.slot c.fate (store_at base history) (cluster_at base history).entries running.word ≡ Some c → RunComes base history c.slot running → CallComes base history c running
  unfolding cluster_at after AreCalls
  call-comes base history sound h c running fate e run =
      let store = store_at base history in
      let moment = (cluster_at base history).entries in
      let is = made c store moment running.word e in
      let answer = answer_in (is.next moment (reply_of store is.asked)) in
      let done = well c store is.asked answer is.is_call fate in
      let span = span_at base history c.slot in
      let agrees = trail-agrees span sound h run.trail (moment_of base history) run.is_trail in
      let asks : P running.request run.trail (Asks is.label is.asked is.next) = subst (λ (w : Word Answer). P running.request run.trail w) is.is_word run.comes in
      let word : word_after_reply store moment running.word ≡ is.next moment (reply_of store is.asked) = ap (λ (w : Word Answer). word_after_reply store moment w) is.is_word in
      let next = subst (λ (w : Word Answer). P running.request (Did moment store is.asked ∷ run.trail) w) (sym word) (lasts.hears running.request run.trail is.label is.asked is.next asks moment store agrees) in
      record {
        trail = Did (moment_of base history) store is.asked ∷ run.trail;
        is_trail = trail-did span c is.asked run.trail refl fate done.call done.reply done.is_written done.next run.is_trail;
        calls = (c, slot_calls c.slot history, refl, record { call = done.call; reply = done.reply; is_written = done.is_written }, run.calls);
        comes = subst (λ (m : ℕ). P running.request (Did m store is.asked ∷ run.trail) (word_after_reply store moment running.word)) (entries-are base history) next;
        answers = done.answers ∙ ap answer_in (sym word);
      }

  goes-at : (base : Base) (history : List Entry) (c : Called) (answer : Option Answer) → c.answer ≡ answer → IsDatastore base.store → Lawful base (entry.Called c ∷ history)
      → ((running : RunningRequest) → (cluster_at base history).slots c.slot ≡ Some running → RunComes base history c.slot running)
      → SlotComes base (entry.Called c ∷ history) c.slot (goes_on (store_at base history) (cluster_at base history).entries answer ((cluster_at base history).slots c.slot))
  unfolding Lawful
  goes-at base history c (Some told) is sound h here = tt
  goes-at base history c None is sound h here =
      let may = h.1 in
      let store = store_at base history in
      let moment = (cluster_at base history).entries in
      let shape = made c store moment may.running.word may.is_called in
      let fate = goes-well c.fate c.slot shape.asked (reply_of store shape.asked) (answer_in (shape.next moment (reply_of store shape.asked))) c shape.is_call is in
      let step = call-comes base history sound h.0 c may.running fate may.is_called (here may.running may.runs) in
      let run : RunComes base (entry.Called c ∷ history) c.slot (record may.running { word = word_after_reply store moment may.running.word }) =
      record {
        trail = step.trail;
        is_trail = step.is_trail;
        calls = subst (λ (l : List Called). AreCalls step.trail l) (sym (calls-called c history)) step.calls;
        comes = step.comes;
      } in
      subst (λ (o : Option RunningRequest). SlotComes base (entry.Called c ∷ history) c.slot (goes_on store moment None o)) (sym may.runs) run

  fed-comes : (base : Base) (history : List Entry) (slot at : ℕ) (live : List (List ℕ)) (running : RunningRequest) → IsTrue (waits running.word) → RunComes base history slot running
      → RunComes base (entry.Fed slot at live ∷ history) slot (record running { word = after_feed running.word live })
  unfolding AreCalls since_begin
  fed-comes base history slot at live running waiting run = record {
    trail = Got (moment_of base history) at live ∷ run.trail;
    is_trail = trail-got (span_at base history slot) at live run.trail run.is_trail;
    calls = run.calls;
    comes = by running.word waiting run.comes;
  }
    where
      by : (w : Word Answer) → IsTrue (waits w) → P running.request run.trail w → P running.request (Got (moment_of base history) at live ∷ run.trail) (after_feed w live)
      by (Ends answer) t h = absurd (cc t)
      by (Asks label asked next) t h = absurd (cc t)
      by (Waits next) t h = lasts.feeds running.request run.trail next h (moment_of base history) at live

  pub slot-comes : (base : Base) (history : List Entry) → IsDatastore base.store → Lawful base history → (slot : ℕ) → SlotComes base history slot ((cluster_at base history).slots slot)
  unfolding Lawful cluster_at after AreCalls
  slot-comes base [] sound h slot = tt
  slot-comes base (entry.Began other request ∷ history) sound h slot =
      slot-is (SlotComes base (entry.Began other request ∷ history) slot) other slot (fresh_run request) (cluster_at base history).slots
      (λ own. subst (λ (s : ℕ). SlotComes base (entry.Began other request ∷ history) s (fresh_run request)) (sym own) (record {
        trail = [];
        is_trail = trail-begins base history other request;
        calls = calls-begun other request history;
        comes = lasts.starts request;
      }))
      (λ differ. skip base history (entry.Began other request) slot ((cluster_at base history).slots slot) (begins-not other slot differ) (λ e. differ (sym e)) (slot-comes base history sound h.0 slot))
  slot-comes base (entry.Fed other at live ∷ history) sound h slot =
      slot-is (SlotComes base (entry.Fed other at live ∷ history) slot) other slot (run_after_feed live ((cluster_at base history).slots other)) (cluster_at base history).slots
      (λ own. subst (λ (s : ℕ). SlotComes base (entry.Fed other at live ∷ history) s (run_after_feed live ((cluster_at base history).slots other))) (sym own)
      (let run = subst (λ (o : Option RunningRequest). SlotComes base history other o) h.1.runs (slot-comes base history sound h.0 other) in
      subst (λ (o : Option RunningRequest). SlotComes base (entry.Fed other at live ∷ history) other (run_after_feed live o)) (sym h.1.runs) (fed-comes base history other at live h.1.running h.1.waiting run)))
      (λ differ. skip base history (entry.Fed other at live) slot ((cluster_at base history).slots slot) refl (λ e. differ (sym e)) (slot-comes base history sound h.0 slot))
  slot-comes base (entry.Stopped other ∷ history) sound h slot =
      slot-is (SlotComes base (entry.Stopped other ∷ history) slot) other slot None (cluster_at base history).slots
      (λ own. tt)
      (λ differ. skip base history (entry.Stopped other) slot ((cluster_at base history).slots slot) refl (λ e. differ (sym e)) (slot-comes base history sound h.0 slot))
  slot-comes base (entry.Called c ∷ history) sound h slot =
      slot-is (SlotComes base (entry.Called c ∷ history) slot) c.slot slot (goes_on (store_at base history) (cluster_at base history).entries c.answer ((cluster_at base history).slots c.slot)) (cluster_at base history).slots
      (λ own. subst (λ (s : ℕ). SlotComes base (entry.Called c ∷ history) s (goes_on (store_at base history) (cluster_at base history).entries c.answer ((cluster_at base history).slots c.slot))) (sym own)
      (goes-at base history c c.answer refl sound h
      (λ running runs. subst (λ (o : Option RunningRequest). SlotComes base history c.slot o) runs (slot-comes base history sound h.0 c.slot))))
      (λ differ. skip base history (entry.Called c) slot ((cluster_at base history).slots slot) refl (λ e. differ (sym e)) (slot-comes base history sound h.0 slot))

-- what two proofs say of one word
pub Comes-both : {A : Type 0} → (Q R : Trail → A → Type 0) (w : Word A) (trail : Trail) → Comes Q trail w → Comes R trail w → Comes (λ longer a. Q longer a × R longer a) trail w
Comes-both Q R (Ends answer) trail h k = (h, k)
Comes-both Q R (Asks label asked next) trail h k = λ moment store agrees.
    Comes-both Q R (next moment (reply_of store asked)) (Did moment store asked ∷ trail) (h moment store agrees) (k moment store agrees)
Comes-both Q R (Waits next) trail h k = λ moment at live. Comes-both Q R (next live) (Got moment at live ∷ trail) (h moment at live) (k moment at live)

module _ (Q : Request → Trail → Answer → Type 0) (starts : (request : Request) → Comes (Q request) [] (word_of request)) where
  all-come : Lasts (λ request trail word. Comes (Q request) trail word)
  all-come = record {
    starts = starts;
    hears = λ request trail label asked next h. h;
    feeds = λ request trail next h. h;
  }

  -- the trail of a request that has answered, and what holds of its answer
  pub record AnswerComes (a : Answered) (told : Answer) : Type 0 where
    pub trail : Trail
    pub is_trail : IsTrail (span_of a) (now (span_of a)) trail
    pub calls : AreCalls trail (a.call ∷ earlier_calls a)
    pub comes : Q a.request trail told

  ends-comes : (request : Request) (trail : Trail) (w : Word Answer) (told : Answer) → Comes (Q request) trail w → answer_in w ≡ Some told → Q request trail told
  ends-comes request trail (Ends answer) told h e = let same : answer ≡ told = cc e in subst (λ (t : Answer). Q request trail t) same h
  ends-comes request trail (Asks label asked next) told h e = absurd (cc e)
  ends-comes request trail (Waits next) told h e = absurd (cc e)

  pub answer-comes : (a : Answered) (told : Answer) → IsDatastore a.base.store → Lawful a.base (history_of a) → request_in (cluster_at a.base a.earlier) a.call.slot ≡ Some a.request
      → a.call.answer ≡ Some told → a.call.fate ≡ Well → AnswerComes a told
  unfolding Lawful
  answer-comes a told sound h requested answer fate =
      let may = h.1 in
      let run = subst (λ (o : Option RunningRequest). SlotComes (λ request trail word. Comes (Q request) trail word) all-come a.base a.earlier a.call.slot o) may.runs (slot-comes (λ request trail word. Comes (Q request) trail word) all-come a.base a.earlier sound h.0 a.call.slot) in
      let step = call-comes (λ request trail word. Comes (Q request) trail word) all-come a.base a.earlier sound h.0 a.call may.running fate may.is_called run in
      let some : Some may.running.request ≡ Some a.request = ap (λ (o : Option RunningRequest). option_map (λ (r : RunningRequest). r.request) o) (sym may.runs) ∙ requested in
      let same : may.running.request ≡ a.request = cc some in
      record {
        trail = step.trail;
        is_trail = step.is_trail;
        calls = step.calls;
        comes = subst (λ (r : Request). Q r step.trail told) same
            (ends-comes may.running.request step.trail (word_after_reply (store_at a.base a.earlier) (cluster_at a.base a.earlier).entries may.running.word) told step.comes (sym step.answers ∙ answer));
      }
