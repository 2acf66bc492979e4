-- What comes of what runs, in one.
use Rattle.std.proofs.Common.{◌≡◌, ℕ, Bool, true, List, [], Option, Some, None, Result, Ok, Err, IsSome, inl, inr, refl, subst}
use Rattle.ipam_shared.specs.Giving.{Gives}
use Rattle.ipam_shared.specs.Kept.{Tells}
use Rattle.ipam_model.specs.declared.answer.Answer.{Answer}
use Rattle.ipam_model.specs.declared.request.CollectRequest.{CollectRequest}
use Rattle.ipam_model.specs.declared.request.Request.{Request}
use Rattle.ipam_model.specs.declared.request.Request.TheVariants.{Collect}
use Rattle.ipam_model.specs.CanAnswer.{CanAnswer}
use Rattle.ipam_shared.specs.Passes.{runs_in}
use Rattle.ipam_serve.specs.declared.ran.Broken.{Broken}
use Rattle.ipam_serve.specs.declared.ran.Broken.TheVariants.{Halted, Worn, Memory}
use Rattle.ipam_serve.specs.declared.ran.Ran.{Ran}
use Rattle.ipam_serve.specs.declared.ran.Ran.TheVariants.{Answered, Waits}
use Rattle.ipam_serve.specs.Faults.{FoundFed, FoundRoom, Halts, IfAnswered, IsWorn, OnMemory, OnWorn, answer_ran, found_of, spared_by}
use Rattle.ipam_serve.specs.Gains.{request_running, is_early, is_waiting}
use Rattle.ipam_serve.specs.Going.{FeedsOwn, GoesOnTo, GoesToAnswer, Steps}
use Rattle.ipam_serve.specs.Keeping.{MakesCalls}
use Rattle.ipam_serve.specs.Runs.{DoesPart, FeedsList, Taker, WentOn}
use Rattle.ipam_serve.specs.Spans.{Deed, Feeds, IsTimeless, list_deed, waits_of}
use Rattle.ipam_serve.proofs.Coming.{ran-can, ran-waiting}
use Rattle.ipam_serve.proofs.Going.{nothing-part, still-runs, worn-so}
use Rattle.ipam_serve.proofs.Keeping.{makes-nothing, makes-then}
use Rattle.ipam_serve.proofs.Running.{due-own, far-ran, far-stays}
use Rattle.ipam_serve.proofs.Wearing.{memory-so, own-way, room-then, worn-then}

-- what is so where it is worn is so of any result that is
pub same-worn : (S T : Type 0) (why : Broken) (p : Type 0) → OnWorn {T = S} (Err why) p → OnWorn {T = T} (Err why) p
same-worn S T Halted p a = tt
same-worn S T Worn p a = a
same-worn S T Memory p a = tt

any-worn : (T : Type 0) (why : Broken) (p : Type 0) → p → OnWorn {T = T} (Err why) p
any-worn T Halted p a = tt
any-worn T Worn p a = a
any-worn T Memory p a = tt

-- an answer that is told, or want of memory, stops nothing
pub found-halts : (ran : Ran) (old new : ℕ) → new ≡ old → Halts (found_of ran) old new
found-halts (Answered told) old new same = same
found-halts Waits old new same = same

module _ {D : Type 0} (tells : Tells D) (gives : Gives D) (faults : D → ℕ) where
  pub goes-ran : (old middle new : Taker) (ran : Ran) → WentOn old None 0 middle → request_running (runs_in middle.pass) ≡ request_running (runs_in old.pass) → MakesCalls tells gives faults old.pass middle.pass
      → Steps tells gives faults (Ok (Some ran)) middle new → GoesOnTo tells gives faults (Ok ran) old new
  goes-ran old middle new ran far same made s = record {
    ran = far-ran old middle new ran far s.step s.passed;
    broken = tt;
    can_answer = λ request asked. ran-can middle.pass new.pass ran (request_running (runs_in old.pass)) s.step same request asked;
    waits = ran-waiting middle.pass new.pass ran s.step;
    worn = tt;
    memory = tt;
    runs = tt;
    keeper = makes-then tells gives faults old.pass middle.pass new.pass made s.keeper;
  }

  pub goes-broken : (old middle new : Taker) (why : Broken) → WentOn old None 0 middle → IsSome (runs_in middle.pass) → MakesCalls tells gives faults old.pass middle.pass
      → Steps tells gives faults (Err why) middle new → GoesOnTo tells gives faults (Err why) old new
  goes-broken old middle new why far runs made s = record {
    ran = tt;
    broken = far-stays old middle new far s.no_step s.passed;
    can_answer = λ request asked. tt;
    waits = tt;
    worn = same-worn (Option Ran) Ran why (IsWorn 0 old.pass new.pass)
        (worn-so {T = Option Ran} (Err why) _ _ (worn-then old.pass middle.pass new.pass far.calls 0 0 far.took) s.worn);
    memory = memory-so {T = Ran} (Err why) _ _ (room-then old.pass middle.pass new.pass far.calls 0 far.took) s.memory;
    runs = any-worn Ran why (IsSome (runs_in new.pass)) (still-runs middle.pass new.pass 1 s.no_step runs);
    keeper = makes-then tells gives faults old.pass middle.pass new.pass made s.keeper;
  }

  -- ---- an answer that must come

  pub goes-found : (old new : Taker) (ran : Ran) → GoesOnTo tells gives faults (Ok ran) old new → GoesToAnswer tells gives faults (found_of ran) old new
  goes-found old new (Answered told) w = record { ran = (refl, w.ran); broken = tt; can_answer = w.can_answer; worn = tt; memory = tt; runs = tt; keeper = w.keeper }
  goes-found old new Waits w = record { ran = tt; broken = w.ran; can_answer = λ request asked. tt; worn = tt; memory = inr w.waits; runs = tt; keeper = w.keeper }

  pub goes-unfound : (old new : Taker) (why : Broken) → GoesOnTo tells gives faults (Err why) old new → GoesToAnswer tells gives faults (Err why) old new
  goes-unfound old new why w = record {
    ran = tt;
    broken = w.broken;
    can_answer = λ request asked. tt;
    worn = same-worn Ran Answer why (IsWorn 0 old.pass new.pass) w.worn;
    memory = memory-so {T = Answer} (Err why) (FoundRoom old.pass new.pass) _ inl w.memory;
    runs = same-worn Ran Answer why (IsSome (runs_in new.pass)) w.runs;
    keeper = w.keeper;
  }

  -- ---- a collection's own list

  pub own-memory : (taker : Taker) (deed : Deed) (request : Request) → waits_of request ≡ 0 → is_waiting (runs_in taker.pass) ≡ true → FeedsOwn tells gives faults deed request (Err Memory) taker taker
  own-memory taker deed request none waits = record {
    fed = tt;
    broken = nothing-part taker deed;
    can_answer = tt;
    idle = tt;
    worn = tt;
    memory = inr (inr (none, waits));
    collects = tt;
    runs = tt;
    keeper = makes-nothing tells gives faults taker.pass;
  }

  pub own-fed : (old new : Taker) (live : List (List ℕ)) (request : Request) (told : Answer) → FeedsList old live 0 (Some told) new → CanAnswer request told → MakesCalls tells gives faults old.pass new.pass
      → FeedsOwn tells gives faults (Feeds live 0) request (Ok told) old new
  own-fed old new live request told fed can made = record { fed = fed.2; broken = tt; can_answer = can; idle = fed.1; worn = tt; memory = tt; collects = tt; runs = tt; keeper = made }

  -- the same of the list that it was taken from
  pub own-fed-of : (old new : Taker) (live list : List (List ℕ)) → live ≡ list → (request : Request) (told : Answer) → FeedsList old live 0 (Some told) new → CanAnswer request told
      → MakesCalls tells gives faults old.pass new.pass → FeedsOwn tells gives faults (Feeds list 0) request (Ok told) old new
  own-fed-of old new live list same request told fed can made =
      subst (λ (l : List (List ℕ)). FeedsOwn tells gives faults (Feeds l 0) request (Ok told) old new) same (own-fed old new live request told fed can made)

  pub own-unfed : (old new : Taker) (live : List (List ℕ)) (asked : CollectRequest) (why : Broken) → is_waiting (runs_in old.pass) ≡ true → request_running (runs_in old.pass) ≡ Some (Collect asked) → IsTimeless (Collect asked)
      → DoesPart old (list_deed (is_early (runs_in old.pass) 0) live 0) 1 new → OnWorn {T = Option Answer} (Err why) (IsWorn 0 old.pass new.pass) → OnMemory {T = Option Answer} (Err why) (FoundFed old.pass 0 new.pass)
      → OnWorn {T = Option Answer} (Err why) (IsSome (runs_in new.pass)) → MakesCalls tells gives faults old.pass new.pass → FeedsOwn tells gives faults (Feeds live 0) (Collect asked) (Err why) old new
  own-unfed old new live asked why waits is timeless does worn memory runs made = record {
    fed = tt;
    broken = subst (λ (b : Bool). DoesPart old (list_deed b live 0) 1 new) (due-own (runs_in old.pass) asked is timeless) does;
    can_answer = tt;
    idle = tt;
    worn = same-worn (Option Answer) Answer why (IsWorn 0 old.pass new.pass) worn;
    memory = own-way why old.pass new.pass asked waits is memory;
    collects = any-worn Answer why (waits_of (Collect asked) ≡ 1) refl;
    runs = same-worn (Option Answer) Answer why (IsSome (runs_in new.pass)) runs;
    keeper = made;
  }

  pub own-unfed-of : (old new : Taker) (live list : List (List ℕ)) → live ≡ list → (asked : CollectRequest) (why : Broken) → is_waiting (runs_in old.pass) ≡ true → request_running (runs_in old.pass) ≡ Some (Collect asked) → IsTimeless (Collect asked)
      → DoesPart old (list_deed (is_early (runs_in old.pass) 0) live 0) 1 new → OnWorn {T = Option Answer} (Err why) (IsWorn 0 old.pass new.pass) → OnMemory {T = Option Answer} (Err why) (FoundFed old.pass 0 new.pass)
      → OnWorn {T = Option Answer} (Err why) (IsSome (runs_in new.pass)) → MakesCalls tells gives faults old.pass new.pass → FeedsOwn tells gives faults (Feeds list 0) (Collect asked) (Err why) old new
  own-unfed-of old new live list same asked why waits is timeless does worn memory runs made =
      subst (λ (l : List (List ℕ)). FeedsOwn tells gives faults (Feeds l 0) (Collect asked) (Err why) old new) same (own-unfed old new live asked why waits is timeless does worn memory runs made)
