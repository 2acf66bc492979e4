-- What comes of a wish, all in one.
use Rattle.std.specs.Prelude.{ℕ, Option, Result, IfOk, OnOk, OnErr, ◌≡◌, None}
use Rattle.cni_types.specs.declared.version.Version.{Version}
use Rattle.ipam_shared.specs.Giving.{Gives}
use Rattle.ipam_shared.specs.Kept.{Tells}
use Rattle.ipam_model.specs.declared.request.Request.{Request}
use Rattle.ipam_session.specs.declared.replies.Reply.{Reply}
use Rattle.ipam_session.specs.declared.wish.Wish.{Wish}
use Rattle.ipam_shared.specs.Passes.{runs_in}
use Rattle.ipam_serve.specs.declared.ran.Broken.{Broken}
use Rattle.ipam_serve.specs.Faults.{IsWorn, OnMemory, OnWorn}
use Rattle.ipam_serve.specs.Keeping.{MakesCalls}
use Rattle.ipam_serve.specs.Lines.{BreaksOff, FoundInCall, FoundNone, IsUnanswered, Replies, Server, TellsRun, WearsOut}
use Rattle.ipam_serve.specs.Runs.{DoesPart, IsAtRest, Taker}
use Rattle.ipam_serve.specs.Spans.{Calls, waits_of}

module _ {D : Type 0} (tells : Tells D) (gives : Gives D) (faults : D → ℕ) where
  -- A wish was done and this is its reply, or it was done as far as it came; then there was cause for it where
  -- the session is worn, or found no memory. Its calls came to this at the keeper.
  pub record Comes (asked : Option Wish) (result : Result Reply Broken) (old new : Server) : Type 0 where
    pub replied : IfOk result (λ reply. Replies asked reply old new)
    pub broken : OnErr result (BreaksOff asked old new)
    pub rests : OnOk result (IsAtRest (runs_in new.taker.pass))
    pub worn : OnWorn result (WearsOut asked old.taker.pass new.taker.pass)
    pub memory : OnMemory result (FoundNone asked old new)
    pub keeper : MakesCalls tells gives faults old.taker.pass new.taker.pass

  -- The request of a CNI call was answered and this tells so, or it was done as far as it came.
  pub record ComesOfCall (request : Request) (version : Version) (result : Result Reply Broken) (old new : Taker) : Type 0 where
    pub told : IfOk result (λ reply. TellsRun request version old reply new)
    pub broken : OnErr result (DoesPart old (Calls request) 2 new)
    pub idle : OnOk result (runs_in new.pass ≡ None)
    pub worn : OnWorn result (IsWorn (waits_of request) old.pass new.pass)
    pub unanswered : OnWorn result (IsUnanswered old.pass new.pass)
    pub memory : OnMemory result (FoundInCall request old new)
    pub keeper : MakesCalls tells gives faults old.pass new.pass
