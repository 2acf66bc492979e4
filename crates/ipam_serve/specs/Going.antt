-- What comes of what runs, all in one.
use Rattle.std.specs.Prelude.{◌≡◌, ◌⊎◌, ℕ, true, [], Option, Some, None, Result, IsSome, IfOk, IfSome, OnOk, OnErr, option_map}
use Rattle.ipam_io.specs.Counts.{next_count}
use Rattle.ipam_shared.specs.Giving.{Gives}
use Rattle.ipam_shared.specs.Kept.{Tells}
use Rattle.ipam_model.specs.declared.answer.Answer.{Answer}
use Rattle.ipam_model.specs.declared.request.Request.{Request}
use Rattle.ipam_model.specs.CanAnswer.{CanAnswer}
use Rattle.ipam_shared.specs.Passes.{runs_in}
use Rattle.ipam_serve.specs.declared.ran.Broken.{Broken}
use Rattle.ipam_serve.specs.declared.ran.Ran.{Ran}
use Rattle.ipam_serve.specs.Faults.{FoundOnWay, FoundRoom, IfAnswered, IsWorn, OnMemory, OnWaits, OnWorn, answer_ran, spared_by}
use Rattle.ipam_serve.specs.Gains.{TookTurns, request_running, is_waiting}
use Rattle.ipam_serve.specs.Keeping.{MakesCalls}
use Rattle.ipam_serve.specs.Runs.{DoesDeed, DoesPart, Taker, WentOn}
use Rattle.ipam_serve.specs.Spans.{Deed, waits_of}
use Rattle.ipam_serve.specs.Turns.{Called}

module _ {D : Type 0} (tells : Tells D) (gives : Gives D) (faults : D → ℕ) where
  -- The gate was passed once. Then a turn came to this for what runs, or to nothing.
  pub record Steps (result : Result (Option Ran) Broken) (old new : Taker) : Type 0 where
    pub step : IfOk result (λ ran. Called old.pass ran new.pass)
    pub no_step : OnErr result (TookTurns old.pass [] 1 new.pass)
    pub passed : new.turns ≡ option_map next_count old.turns
    pub worn : OnWorn result (IsWorn 0 old.pass new.pass)
    pub memory : OnMemory result (FoundRoom old.pass new.pass)
    pub keeper : MakesCalls tells gives faults old.pass new.pass

  -- What runs went on to its answer or until it waits, or as far as it came.
  pub record GoesOnTo (result : Result Ran Broken) (old new : Taker) : Type 0 where
    pub ran : IfOk result (λ ran. WentOn old (answer_ran ran) (spared_by ran) new)
    pub broken : OnErr result (WentOn old None 1 new)
    pub can_answer : (request : Request) → request_running (runs_in old.pass) ≡ Some request → IfOk result (λ ran. IfAnswered ran (CanAnswer request))
    pub waits : IfOk result (λ ran. OnWaits ran (is_waiting (runs_in new.pass) ≡ true))
    pub worn : OnWorn result (IsWorn 0 old.pass new.pass)
    pub memory : OnMemory result (FoundRoom old.pass new.pass)
    pub runs : OnWorn result (IsSome (runs_in new.pass))
    pub keeper : MakesCalls tells gives faults old.pass new.pass

  -- What runs went on to its answer, or as far as it came.
  pub record GoesToAnswer (result : Result (Option Answer) Broken) (old new : Taker) : Type 0 where
    pub ran : IfOk result (λ found. IsSome found × WentOn old found 0 new)
    pub broken : OnErr result (WentOn old None 1 new)
    pub can_answer : (request : Request) → request_running (runs_in old.pass) ≡ Some request → IfOk result (λ found. IfSome found (CanAnswer request))
    pub worn : OnWorn result (IsWorn 0 old.pass new.pass)
    pub memory : OnMemory result (FoundRoom old.pass new.pass ⊎ (is_waiting (runs_in new.pass) ≡ true))
    pub runs : OnWorn result (IsSome (runs_in new.pass))
    pub keeper : MakesCalls tells gives faults old.pass new.pass

  -- The collection that waits, which is this request, was fed and answered, or it came as far.
  pub record FeedsOwn (deed : Deed) (request : Request) (result : Result Answer Broken) (old new : Taker) : Type 0 where
    pub fed : IfOk result (λ told. DoesDeed old deed (Some told) 0 new)
    pub broken : OnErr result (DoesPart old deed 1 new)
    pub can_answer : IfOk result (CanAnswer request)
    pub idle : OnOk result (runs_in new.pass ≡ None)
    pub worn : OnWorn result (IsWorn 0 old.pass new.pass)
    pub memory : OnMemory result (FoundOnWay request old.pass new.pass)
    pub collects : OnWorn result (waits_of request ≡ 1)
    pub runs : OnWorn result (IsSome (runs_in new.pass))
    pub keeper : MakesCalls tells gives faults old.pass new.pass
