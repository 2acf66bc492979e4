-- What runs goes on by calls, from its beginning to its answer.
use Rattle.std.proofs.Common.{◌≡◌, ◌≢◌, ◌≤◌, ℕ, ◌+◌, arith, true, false, inl, inr, List, [], ◌∷◌, ◌++◌, Option, Some, None, IsSome, refl, sym, ap, ◌∙◌, subst}
use Rattle.std.specs.Prelude.{option_map, not, nat_le}
use Rattle.ipam_io.specs.Counts.{next_count}
use Rattle.ipam_model.specs.declared.answer.Answer.{Answer}
use Rattle.ipam_model.specs.declared.entry.Entry.{Entry}
use Rattle.ipam_model.specs.declared.entry.Entry.TheVariants as entry
use Rattle.ipam_model.specs.declared.request.CollectRequest.{CollectRequest}
use Rattle.ipam_model.specs.declared.request.Request.{Request}
use Rattle.ipam_model.specs.declared.request.Request.TheVariants.{Add, AddThis, Del, Check, Release, Collect, Admin, Probe}
use Rattle.ipam_model.specs.Cluster.{RunningRequest}
use Rattle.ipam_model.specs.Course.{due, is_due}
use Rattle.ipam_shared.specs.PassValue.{PassValue}
use Rattle.ipam_shared.specs.Passes.{runs_in}
use Rattle.ipam_serve.specs.declared.ran.Ran.{Ran}
use Rattle.ipam_serve.specs.declared.ran.Ran.TheVariants.{Answered, Waits}
use Rattle.ipam_serve.specs.Faults.{answer_ran, spared_by}
use Rattle.ipam_serve.specs.Gains.{Passed, TookTurns, asked_after, request_running, calls_in, counted, is_early, is_waiting, unless_answered}
use Rattle.ipam_serve.specs.Runs.{DoesDeed, DoesPart, Taker, WentOn}
use Rattle.ipam_serve.specs.Spans.{AnswersWith, Begins, Calls, Deed, Did, DidPart, Feeds, GoesOn, IsTimeless, Reaches, SlotSpan, own_feed}
use Rattle.ipam_serve.specs.Turns.{Called, Made}
use Rattle.ipam_serve.proofs.Entries.{asked_after-append}
use Rattle.ipam_serve.proofs.Turning.{passed-nothing, passed-then, took-nothing, took-slot, took-spared, took-then}

-- ---- what runs

pub none-asked : (o : Option RunningRequest) → request_running o ≡ None → o ≡ None
none-asked None e = refl
none-asked (Some running) e = absurd (cc e)

pub some-asked : (o : Option RunningRequest) (request : Request) → request_running o ≡ Some request → IsSome o
some-asked None request e = absurd (cc e)
some-asked (Some running) request e = refl

pub same-some : (o other : Option RunningRequest) → request_running o ≡ request_running other → IsSome other → IsSome o
same-some None None e h = h
same-some None (Some one) e h = absurd (cc e)
same-some (Some running) other e h = refl

pub waiting-some : (o : Option RunningRequest) → is_waiting o ≡ true → IsSome o
waiting-some None e = absurd (cc e)
waiting-some (Some running) e = refl

-- ---- one pass of the gate, and a turn

pub passed-once : (old new : Option ℕ) (entries : List Entry) → calls_in entries ≤ 1 → new ≡ option_map next_count old → Passed entries old new
unfolding counted
passed-once None new entries few e = record { passes = 1; enough = few; counts = e }
passed-once (Some count) new entries few e = record { passes = 1; enough = few; counts = e }

-- calls go on in the same slot
goes-slot : (slot other : ℕ) (calls : List Entry) → other ≡ slot → GoesOn other calls → GoesOn slot calls
goes-slot slot other calls e h = subst (λ (s : ℕ). GoesOn s calls) e h

far-made : (old middle new : Taker) (answer : Option Answer) → (far : WentOn old None 0 middle) → (made : Made middle.pass answer new.pass) → new.turns ≡ option_map next_count middle.turns → Reaches old.pass.slot answer (entry.Called made.made ∷ far.calls) → WentOn old answer 0 new
unfolding calls_in
far-made old middle new answer far made passed reaches = record {
  calls = entry.Called made.made ∷ far.calls;
  reaches = reaches;
  took = took-then old.pass middle.pass new.pass far.calls (entry.Called made.made ∷ []) 0 0 far.took made.took;
  passed = passed-then old.turns middle.turns new.turns far.calls (entry.Called made.made ∷ []) far.passed (passed-once middle.turns new.turns (entry.Called made.made ∷ []) (omega arith) passed);
}

pub far-start : (taker : Taker) → WentOn taker None 0 taker
far-start taker = record { calls = []; reaches = tt; took = took-nothing taker.pass; passed = passed-nothing taker.turns }

pub far-step : (old middle new : Taker) → WentOn old None 0 middle → Made middle.pass None new.pass → new.turns ≡ option_map next_count middle.turns → WentOn old None 0 new
far-step old middle new far made passed =
    far-made old middle new None far made passed (made.own ∙ took-slot old.pass middle.pass far.calls 0 far.took, made.answers, far.reaches)

far-answer : (old middle new : Taker) (told : Answer) → WentOn old None 0 middle → Made middle.pass (Some told) new.pass → new.turns ≡ option_map next_count middle.turns → WentOn old (Some told) 0 new
far-answer old middle new told far made passed =
    far-made old middle new (Some told) far made passed (made.own ∙ took-slot old.pass middle.pass far.calls 0 far.took, made.answers, far.reaches)

-- with a turn that had no entry
pub far-stays : (old middle new : Taker) → WentOn old None 0 middle → TookTurns middle.pass [] 1 new.pass → new.turns ≡ option_map next_count middle.turns → WentOn old None 1 new
unfolding calls_in
far-stays old middle new far took passed = record {
  calls = far.calls;
  reaches = far.reaches;
  took = took-then old.pass middle.pass new.pass far.calls [] 0 1 far.took took;
  passed = passed-then old.turns middle.turns new.turns far.calls [] far.passed (passed-once middle.turns new.turns [] (omega arith) passed);
}

pub far-ran : (old middle new : Taker) (ran : Ran) → WentOn old None 0 middle → Called middle.pass (Some ran) new.pass → new.turns ≡ option_map next_count middle.turns → WentOn old (answer_ran ran) (spared_by ran) new
far-ran old middle new (Answered told) far called passed = far-answer old middle new told far called.0 passed
far-ran old middle new Waits far called passed = far-stays old middle new far called.0 passed

-- what ran goes on
pub made-asked : (old new : PassValue) → Made old None new → request_running (runs_in new) ≡ request_running (runs_in old)
unfolding asked_after
made-asked old new made = made.took.runs ∙ ap (λ a. unless_answered a (request_running (runs_in old))) made.answers

-- ---- an entry, and then calls

-- the slot gained a span
pub record Spans (old : Taker) (first : Entry) (answer : Option Answer) (spared : ℕ) (new : Taker) : Type 0 where
  pub entries : List Entry
  pub span : SlotSpan old.pass.slot first answer entries
  pub took : TookTurns old.pass entries spared new.pass
  pub passed : Passed entries old.turns new.turns

pub first-then : (old : Taker) (middle : PassValue) (new : Taker) (first : Entry) (answer : Option Answer) (spared : ℕ) → calls_in (first ∷ []) ≡ 0 → TookTurns old.pass (first ∷ []) 0 middle → WentOn (record { pass = middle; turns = old.turns }) answer spared new → Spans old first answer spared new
unfolding counted
first-then old middle new first answer spared none took on =
    let nothing = passed-nothing old.turns in
    let first_passed : Passed (first ∷ []) old.turns old.turns = record { passes = 0; enough = omega (arith, none); counts = nothing-counts old.turns } in
    record {
      entries = on.calls ++ first ∷ [];
      span = record { calls = on.calls; are = refl; reaches = subst (λ (s : ℕ). Reaches s answer on.calls) (took-slot old.pass middle (first ∷ []) 0 took) on.reaches };
      took = let e : 0 + spared ≡ spared = omega arith in subst (λ (n : ℕ). TookTurns old.pass (on.calls ++ first ∷ []) n new.pass) e (took-then old.pass middle new.pass (first ∷ []) on.calls 0 spared took on.took);
      passed = passed-then old.turns old.turns new.turns (first ∷ []) on.calls first_passed on.passed;
    }
  where
    nothing-counts : (o : Option ℕ) → o ≡ option_map (counted 0) o
    nothing-counts None = refl
    nothing-counts (Some count) = refl

pub begun-then : (old : Taker) (middle : PassValue) (new : Taker) (request : Request) (answer : Option Answer) (spared : ℕ) → TookTurns old.pass (entry.Began old.pass.slot request ∷ []) 0 middle → WentOn (record { pass = middle; turns = old.turns }) answer spared new → DoesDeed old (Begins request) answer spared new
unfolding calls_in
begun-then old middle new request answer spared took on =
    let s = first-then old middle new (entry.Began old.pass.slot request) answer spared refl took on in
    record { entries = s.entries; did = s.span; took = s.took; passed = s.passed }

pub fed-then : (old : Taker) (middle : PassValue) (new : Taker) (live : List (List ℕ)) (at : ℕ) (answer : Option Answer) (spared : ℕ) → TookTurns old.pass (entry.Fed old.pass.slot at live ∷ []) 0 middle → WentOn (record { pass = middle; turns = old.turns }) answer spared new → DoesDeed old (Feeds live at) answer spared new
unfolding calls_in
fed-then old middle new live at answer spared took on =
    let s = first-then old middle new (entry.Fed old.pass.slot at live) answer spared refl took on in
    record { entries = s.entries; did = s.span; took = s.took; passed = s.passed }

-- ---- parts

pub does-part : (old new : Taker) (deed : Deed) (answer : Option Answer) (spared : ℕ) → DoesDeed old deed answer spared new → DoesPart old deed spared new
does-part old new deed answer spared d = record { entries = d.entries; did = inr (answer, d.did); took = d.took; passed = d.passed }

pub not-begun : (old : Taker) (new : PassValue) (deed : Deed) → TookTurns old.pass [] 1 new → DoesPart old deed 1 (record { pass = new; turns = old.turns })
not-begun old new deed took = record { entries = []; did = inl refl; took = took; passed = passed-nothing old.turns }

pub part-spared : (old new : Taker) (deed : Deed) (few more : ℕ) → few ≤ more → DoesPart old deed few new → DoesPart old deed more new
part-spared old new deed few more less d = record { entries = d.entries; did = d.did; took = took-spared old.pass new.pass d.entries few more less d.took; passed = d.passed }

-- ---- what runs after a span

goes-behind : (slot : ℕ) (asked : Option Request) (calls : List Entry) → GoesOn slot calls → asked_after asked calls ≡ asked
unfolding asked_after
goes-behind slot asked [] h = refl
goes-behind slot asked (entry.Called c ∷ earlier) h =
    ap (λ a. unless_answered a (asked_after asked earlier)) h.1 ∙ goes-behind slot asked earlier h.2
goes-behind slot asked (entry.Began other request ∷ earlier) h = absurd h
goes-behind slot asked (entry.Fed other at live ∷ earlier) h = absurd h
goes-behind slot asked (entry.Stopped other ∷ earlier) h = absurd h

answers-behind : (slot : ℕ) (asked : Option Request) (told : Answer) (calls : List Entry) → AnswersWith slot told calls → asked_after asked calls ≡ None
unfolding asked_after
answers-behind slot asked told [] h = absurd h
answers-behind slot asked told (entry.Called c ∷ earlier) h = ap (λ a. unless_answered a (asked_after asked earlier)) h.1
answers-behind slot asked told (entry.Began other request ∷ earlier) h = absurd h
answers-behind slot asked told (entry.Fed other at live ∷ earlier) h = absurd h
answers-behind slot asked told (entry.Stopped other ∷ earlier) h = absurd h

-- nothing runs after an answer
pub span-idle : (slot : ℕ) (first : Entry) (told : Answer) (entries : List Entry) (asked : Option Request) → SlotSpan slot first (Some told) entries → asked_after asked entries ≡ None
span-idle slot first told entries asked s =
    ap (asked_after asked) s.are ∙ asked_after-append asked s.calls (first ∷ []) ∙ answers-behind slot (asked_after asked (first ∷ [])) told s.calls s.reaches

pub went-idle : (old new : Taker) (told : Answer) (spared : ℕ) → WentOn old (Some told) spared new → runs_in new.pass ≡ None
went-idle old new told spared on =
    none-asked (runs_in new.pass) (on.took.runs ∙ answers-behind old.pass.slot (request_running (runs_in old.pass)) told on.calls on.reaches)

-- what runs after calls without an answer
pub went-asked : (old new : Taker) (spared : ℕ) → WentOn old None spared new → request_running (runs_in new.pass) ≡ request_running (runs_in old.pass)
went-asked old new spared on = on.took.runs ∙ goes-behind old.pass.slot (request_running (runs_in old.pass)) on.calls on.reaches

pub begun-asked : (old new : PassValue) (request : Request) → TookTurns old (entry.Began old.slot request ∷ []) 0 new → request_running (runs_in new) ≡ Some request
unfolding asked_after
begun-asked old new request took = took.runs

pub fed-asked : (old new : PassValue) (live : List (List ℕ)) (at : ℕ) → TookTurns old (entry.Fed old.slot at live ∷ []) 0 new → request_running (runs_in new) ≡ request_running (runs_in old)
unfolding asked_after
fed-asked old new live at took = took.runs

-- ---- the request of a CNI call

-- a list at the time 0 is never early where there is no grace
pub due-own : (o : Option RunningRequest) (asked : CollectRequest) → request_running o ≡ Some (Collect asked) → IsTimeless (Collect asked) → is_early o 0 ≡ false
due-own None asked e timeless = absurd (cc e)
due-own (Some running) asked e timeless =
    let its : running.request ≡ Collect asked = cc e in
    let none : due asked ≡ 0 = let first = timeless.0 in let second = timeless.1 in omega arith in
    ap (λ r. not (is_due r 0)) its ∙ ap (λ n. not (nat_le n 0)) none

pub never-early : (o : Option RunningRequest) (asked : CollectRequest) → request_running o ≡ Some (Collect asked) → IsTimeless (Collect asked) → is_early o 0 ≡ true → ⊥
never-early o asked e timeless early = let is = due-own o asked e timeless in cc (is, early)

did-slot : (slot other : ℕ) (deed : Deed) (answer : Option Answer) (entries : List Entry) → other ≡ slot → Did other deed answer entries → Did slot deed answer entries
did-slot slot other deed answer entries e h = subst (λ (s : ℕ). Did s deed answer entries) e h

part-slot : (slot other : ℕ) (deed : Deed) (entries : List Entry) → other ≡ slot → DidPart other deed entries → DidPart slot deed entries
part-slot slot other deed entries e h = subst (λ (s : ℕ). DidPart s deed entries) e h

own-did : (slot : ℕ) (request : Request) (answer : Option Answer) (earlier later : List Entry) → Did slot (Begins request) None earlier → Did slot (own_feed request) answer later → (answer ≢ None) → Did slot (Calls request) answer (later ++ earlier)
own-did slot (Collect asked) answer earlier later a b some =
    inr (asked, refl, record { earlier = earlier; later = later; are = refl; before = a; behind = b })
own-did slot (Add add) answer earlier later a b some = absurd (some b.0)
own-did slot (AddThis add address) answer earlier later a b some = absurd (some b.0)
own-did slot (Del id) answer earlier later a b some = absurd (some b.0)
own-did slot (Check id addresses) answer earlier later a b some = absurd (some b.0)
own-did slot (Release node cidr) answer earlier later a b some = absurd (some b.0)
own-did slot (Admin change) answer earlier later a b some = absurd (some b.0)
own-did slot (Probe probe) answer earlier later a b some = absurd (some b.0)

pub own-then : (old middle new : Taker) (request : Request) (told : Answer) → DoesDeed old (Begins request) None 1 middle → DoesDeed middle (own_feed request) (Some told) 0 new → DoesDeed old (Calls request) (Some told) 1 new
own-then old middle new request told a b = record {
  entries = b.entries ++ a.entries;
  did = own-did old.pass.slot request (Some told) a.entries b.entries a.did (did-slot old.pass.slot middle.pass.slot (own_feed request) (Some told) b.entries (took-slot old.pass middle.pass a.entries 1 a.took) b.did) (λ e. cc e);
  took = took-then old.pass middle.pass new.pass a.entries b.entries 1 0 a.took b.took;
  passed = passed-then old.turns middle.turns new.turns a.entries b.entries a.passed b.passed;
}

-- as far as it came
own-part-did : (slot : ℕ) (request : Request) (answer : Option Answer) (earlier later : List Entry) → Did slot (Begins request) None earlier → Did slot (own_feed request) answer later → DidPart slot (Calls request) (later ++ earlier)
own-part-did slot (Collect asked) answer earlier later a b =
    inr (answer, inr (asked, refl, record { earlier = earlier; later = later; are = refl; before = a; behind = b }))
own-part-did slot (Add add) answer earlier later a b = inr (None, inl (subst (λ l. SlotSpan slot (entry.Began slot (Add add)) None (l ++ earlier)) (sym b.1) a))
own-part-did slot (AddThis add address) answer earlier later a b = inr (None, inl (subst (λ l. SlotSpan slot (entry.Began slot (AddThis add address)) None (l ++ earlier)) (sym b.1) a))
own-part-did slot (Del id) answer earlier later a b = inr (None, inl (subst (λ l. SlotSpan slot (entry.Began slot (Del id)) None (l ++ earlier)) (sym b.1) a))
own-part-did slot (Check id addresses) answer earlier later a b = inr (None, inl (subst (λ l. SlotSpan slot (entry.Began slot (Check id addresses)) None (l ++ earlier)) (sym b.1) a))
own-part-did slot (Release node cidr) answer earlier later a b = inr (None, inl (subst (λ l. SlotSpan slot (entry.Began slot (Release node cidr)) None (l ++ earlier)) (sym b.1) a))
own-part-did slot (Admin change) answer earlier later a b = inr (None, inl (subst (λ l. SlotSpan slot (entry.Began slot (Admin change)) None (l ++ earlier)) (sym b.1) a))
own-part-did slot (Probe probe) answer earlier later a b = inr (None, inl (subst (λ l. SlotSpan slot (entry.Began slot (Probe probe)) None (l ++ earlier)) (sym b.1) a))

own-any-part : (slot : ℕ) (request : Request) (earlier later : List Entry) → Did slot (Begins request) None earlier → DidPart slot (own_feed request) later → DidPart slot (Calls request) (later ++ earlier)
own-any-part slot request earlier later a (inl none) = inr (None, inl (subst (λ l. SlotSpan slot (entry.Began slot request) None (l ++ earlier)) (sym none) a))
own-any-part slot request earlier later a (inr b) = own-part-did slot request b.0 earlier later a b.1

pub own-part : (old middle new : Taker) (request : Request) → DoesDeed old (Begins request) None 1 middle → DoesPart middle (own_feed request) 1 new → DoesPart old (Calls request) 2 new
own-part old middle new request a b = record {
  entries = b.entries ++ a.entries;
  did = own-any-part old.pass.slot request a.entries b.entries a.did (part-slot old.pass.slot middle.pass.slot (own_feed request) b.entries (took-slot old.pass middle.pass a.entries 1 a.took) b.did);
  took = took-then old.pass middle.pass new.pass a.entries b.entries 1 1 a.took b.took;
  passed = passed-then old.turns middle.turns new.turns a.entries b.entries a.passed b.passed;
}

-- a request that was answered without waiting
pub begins-calls : (old new : Taker) (request : Request) (answer : Option Answer) (spared : ℕ) → DoesDeed old (Begins request) answer spared new → DoesDeed old (Calls request) answer spared new
begins-calls old new request answer spared d = record { entries = d.entries; did = inl d.did; took = d.took; passed = d.passed }

begins-part-did : (slot : ℕ) (request : Request) (entries : List Entry) → DidPart slot (Begins request) entries → DidPart slot (Calls request) entries
begins-part-did slot request entries (inl none) = inl none
begins-part-did slot request entries (inr d) = inr (d.0, inl d.1)

pub begins-calls-part : (old new : Taker) (request : Request) → DoesPart old (Begins request) 1 new → DoesPart old (Calls request) 2 new
begins-calls-part old new request d = record {
  entries = d.entries;
  did = begins-part-did old.pass.slot request d.entries d.did;
  took = took-spared old.pass new.pass d.entries 1 2 (omega arith) d.took;
  passed = d.passed;
}
