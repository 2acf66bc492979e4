-- What requests and lists come to that go on.
use Rattle.std.proofs.Common.{◌≡◌, ◌≤◌, ℕ, arith, Bool, true, List, [], ◌∷◌, Option, Some, None, Result, Ok, Err, IsSome, refl, sym, ◌∙◌, subst}
use Rattle.std.specs.Prelude.{IfOk, OnErr}
use Rattle.ipam_io.specs.Counts.{Rose}
use Rattle.ipam_model.specs.declared.answer.Answer.{Answer}
use Rattle.ipam_model.specs.declared.entry.Entry.TheVariants as entry
use Rattle.ipam_model.specs.declared.request.Request.{Request}
use Rattle.ipam_shared.specs.PassValue.{PassValue}
use Rattle.ipam_shared.specs.Passes.{runs_in}
use Rattle.ipam_serve.specs.declared.ran.Broken.{Broken}
use Rattle.ipam_serve.specs.declared.ran.Broken.TheVariants.{Halted, Worn, Memory}
use Rattle.ipam_serve.specs.declared.ran.Ran.{Ran}
use Rattle.ipam_serve.specs.declared.ran.Ran.TheVariants.{Answered, Waits}
use Rattle.ipam_serve.specs.Faults.{Halts, IfAnswered, OnWaits, OnWorn, answer_ran, spared_by}
use Rattle.ipam_serve.specs.Gains.{TookTurns, asked_after, request_running, is_early, is_waiting}
use Rattle.ipam_serve.specs.Runs.{DoesDeed, DoesPart, FeedsList, Taker, WentOn}
use Rattle.ipam_serve.specs.Spans.{Begins, Calls, Deed, Feeds, list_deed, own_feed}
use Rattle.ipam_serve.specs.Turns.{Fed}
use Rattle.ipam_serve.specs.declared.turns.Feeding.TheVariants as feeding
use Rattle.ipam_serve.proofs.Running.{begins-calls, begun-then, does-part, fed-asked, fed-then, not-begun, own-part, own-then, same-some, waiting-some, went-asked, went-idle}
use Rattle.ipam_serve.proofs.Turning.{passed-nothing, took-rest, took-spared}

module _ (old : Taker) (middle : PassValue) (new : Taker) (request : Request) (r : Result Ran Broken) (took : TookTurns old.pass (entry.Began old.pass.slot request ∷ []) 0 middle) where
  pub ran-begun : IfOk r (λ ran. WentOn (record { pass = middle; turns = old.turns }) (answer_ran ran) (spared_by ran) new) → IfOk r (λ ran. DoesDeed old (Begins request) (answer_ran ran) (spared_by ran) new)
  ran-begun = from r
    where
      from : (s : Result Ran Broken) → IfOk s (λ ran. WentOn (record { pass = middle; turns = old.turns }) (answer_ran ran) (spared_by ran) new) → IfOk s (λ ran. DoesDeed old (Begins request) (answer_ran ran) (spared_by ran) new)
      from (Ok ran) h = begun-then old middle new request (answer_ran ran) (spared_by ran) took h
      from (Err broken) h = tt

  pub broken-begun : OnErr r (WentOn (record { pass = middle; turns = old.turns }) None 1 new) → OnErr r (DoesPart old (Begins request) 1 new)
  broken-begun = from r
    where
      from : (s : Result Ran Broken) → OnErr s (WentOn (record { pass = middle; turns = old.turns }) None 1 new) → OnErr s (DoesPart old (Begins request) 1 new)
      from (Ok ran) h = tt
      from (Err broken) h = does-part old new (Begins request) None 1 (begun-then old middle new request None 1 took h)

pub ran-idle : (old new : Taker) (r : Result Ran Broken) → IfOk r (λ ran. WentOn old (answer_ran ran) (spared_by ran) new) → IfOk r (λ ran. IfAnswered ran (λ told. runs_in new.pass ≡ None))
ran-idle old new (Ok (Answered told)) h = went-idle old new told 0 h
ran-idle old new (Ok Waits) h = tt
ran-idle old new (Err broken) h = tt

pub ran-waits : (old new : Taker) (request : Request) (r : Result Ran Broken) → request_running (runs_in old.pass) ≡ Some request → IfOk r (λ ran. WentOn old (answer_ran ran) (spared_by ran) new) → IfOk r (λ ran. OnWaits ran (is_waiting (runs_in new.pass) ≡ true))
    → IfOk r (λ ran. OnWaits ran ((is_waiting (runs_in new.pass) ≡ true) × (request_running (runs_in new.pass) ≡ Some request)))
ran-waits old new request (Ok (Answered told)) asked h w = tt
ran-waits old new request (Ok Waits) asked h w = (w, went-asked old new 1 h ∙ asked)
ran-waits old new request (Err broken) asked h w = tt

-- ---- a list

pub feeds-early : (old : Taker) (new : PassValue) (live : List (List ℕ)) (at : ℕ) → Fed old.pass live at feeding.TooSoon new → FeedsList old live at None (record { pass = new; turns = old.turns })
feeds-early old new live at (took, early, waits) =
    (early, waits, record { entries = []; did = (refl, refl); took = took; passed = passed-nothing old.turns })

pub feeds-told : (old : Taker) (middle : PassValue) (new : Taker) (live : List (List ℕ)) (at : ℕ) (told : Answer) → Fed old.pass live at feeding.Fed middle → WentOn (record { pass = middle; turns = old.turns }) (Some told) 0 new → FeedsList old live at (Some told) new
feeds-told old middle new live at told (took, due) on =
    (due, went-idle (record { pass = middle; turns = old.turns }) new told 0 on, fed-then old middle new live at (Some told) 0 took on)

pub feeds-broken : (old : Taker) (middle : PassValue) (new : Taker) (live : List (List ℕ)) (at : ℕ) → Fed old.pass live at feeding.Fed middle → WentOn (record { pass = middle; turns = old.turns }) None 1 new → DoesPart old (Feeds live at) 1 new
feeds-broken old middle new live at (took, due) on = does-part old new (Feeds live at) None 1 (fed-then old middle new live at None 1 took on)

pub memory-worn : {T : Type 0} (r : Result T Broken) (p : Type 0) → OnErr r (r ≡ Err Memory) → OnWorn r p
memory-worn (Ok value) p is = tt
memory-worn (Err Halted) p is = tt
memory-worn (Err Worn) p is = absurd (cc is)
memory-worn (Err Memory) p is = tt

pub memory-halts : {T : Type 0} (r : Result T Broken) (old new : ℕ) → OnErr r (r ≡ Err Memory) → new ≡ old → Halts r old new
memory-halts (Ok value) old new is same = same
memory-halts (Err Halted) old new is same = absurd (cc is)
memory-halts (Err Worn) old new is same = same
memory-halts (Err Memory) old new is same = same

-- ---- a list that was fed

pub fed-found : (old : Taker) (middle : PassValue) (new : Taker) (live : List (List ℕ)) (at : ℕ) (r : Result (Option Answer) Broken) → Fed old.pass live at feeding.Fed middle
    → IfOk r (λ found. IsSome found × WentOn (record { pass = middle; turns = old.turns }) found 0 new) → IfOk r (λ found. FeedsList old live at found new)
fed-found old middle new live at (Ok None) fed h = absurd (cc (h.0))
fed-found old middle new live at (Ok (Some told)) fed h = feeds-told old middle new live at told fed h.1
fed-found old middle new live at (Err broken) fed h = tt

pub fed-broken : (old : Taker) (middle : PassValue) (new : Taker) (live : List (List ℕ)) (at : ℕ) (r : Result (Option Answer) Broken) → Fed old.pass live at feeding.Fed middle
    → OnErr r (WentOn (record { pass = middle; turns = old.turns }) None 1 new) → OnErr r (DoesPart old (list_deed (is_early (runs_in old.pass) at) live at) 1 new)
fed-broken old middle new live at (Ok found) fed h = tt
fed-broken old middle new live at (Err broken) fed h =
    subst (λ (b : Bool). DoesPart old (list_deed b live at) 1 new) (sym fed.1) (feeds-broken old middle new live at fed h)

-- what was fed still runs
pub fed-runs : (old new : PassValue) (live : List (List ℕ)) (at : ℕ) → is_waiting (runs_in old) ≡ true → Fed old live at feeding.Fed new → request_running (runs_in new) ≡ request_running (runs_in old) × IsSome (runs_in new)
fed-runs old new live at waits (took, due) =
    let same = fed-asked old new live at took in
    (same, same-some (runs_in new) (runs_in old) same (waiting-some (runs_in old) waits))

-- ---- the request of a CNI call

pub nothing-part : (taker : Taker) (deed : Deed) → DoesPart taker deed 1 taker
nothing-part taker deed = not-begun taker taker.pass deed (took-rest taker.pass)

pub does-spared : (old new : Taker) (deed : Deed) (answer : Option Answer) (few more : ℕ) → few ≤ more → DoesDeed old deed answer few new → DoesDeed old deed answer more new
does-spared old new deed answer few more less d = record {
  entries = d.entries;
  did = d.did;
  took = took-spared old.pass new.pass d.entries few more less d.took;
  passed = d.passed;
}

pub call-answered : (old new : Taker) (request : Request) (told : Answer) → DoesDeed old (Begins request) (Some told) 0 new → DoesDeed old (Calls request) (Some told) 1 new
call-answered old new request told d = does-spared old new (Calls request) (Some told) 0 1 (omega arith) (begins-calls old new request (Some told) 0 d)

pub call-fed : (old middle new : Taker) (request : Request) (r : Result Answer Broken) → DoesDeed old (Begins request) None 1 middle → IfOk r (λ told. DoesDeed middle (own_feed request) (Some told) 0 new) → IfOk r (λ told. DoesDeed old (Calls request) (Some told) 1 new)
call-fed old middle new request (Ok told) a b = own-then old middle new request told a b
call-fed old middle new request (Err broken) a b = tt

pub call-broken : (old middle new : Taker) (request : Request) (r : Result Answer Broken) → DoesDeed old (Begins request) None 1 middle → OnErr r (DoesPart middle (own_feed request) 1 new) → OnErr r (DoesPart old (Calls request) 2 new)
call-broken old middle new request (Ok told) a b = tt
call-broken old middle new request (Err broken) a b = own-part old middle new request a b

-- a stop of the gate after passes that it did not stop
pub halts-on : (broken : Broken) (one two three : ℕ) → two ≡ one → Halts {T = Ran} (Err broken) two three → Halts {T = Ran} (Err broken) one three
halts-on Halted one two three same h = subst (λ (n : ℕ). Rose n three) same h
halts-on Worn one two three same h = h ∙ same
halts-on Memory one two three same h = h ∙ same

-- ---- too few turns, or too many entries

-- a fact of any end is one of this kind
pub worn-any : (why : Broken) (p : Type 0) → p → OnWorn {T = Unit {0}} (Err why) p
worn-any Halted p a = tt
worn-any Worn p a = a
worn-any Memory p a = tt

-- two facts make a third
pub worn-both : (why : Broken) (p q r : Type 0) → (p → q → r) → OnWorn {T = Unit {0}} (Err why) p → OnWorn {T = Unit {0}} (Err why) q → OnWorn {T = Unit {0}} (Err why) r
worn-both Halted p q r from a b = tt
worn-both Worn p q r from a b = from a b
worn-both Memory p q r from a b = tt

pub worn-so : {T : Type 0} (r : Result T Broken) (p q : Type 0) → (p → q) → OnWorn r p → OnWorn r q
worn-so (Ok value) p q from a = tt
worn-so (Err Halted) p q from a = tt
worn-so (Err Worn) p q from a = from a
worn-so (Err Memory) p q from a = tt

pub worn-from : {T : Type 0} (r : Result T Broken) (p q s : Type 0) → (p → q → s) → OnWorn r p → OnWorn r q → OnWorn r s
worn-from (Ok value) p q s from a b = tt
worn-from (Err Halted) p q s from a b = tt
worn-from (Err Worn) p q s from a b = from a b
worn-from (Err Memory) p q s from a b = tt

-- what runs still does, where the slot gained no entry
pub still-runs : (old new : PassValue) (spared : ℕ) → TookTurns old [] spared new → IsSome (runs_in old) → IsSome (runs_in new)
unfolding asked_after
still-runs old new spared took runs = same-some (runs_in new) (runs_in old) took.runs runs
