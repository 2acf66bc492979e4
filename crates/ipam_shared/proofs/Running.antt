-- What a request that was run has made of a kept cluster.
use Rattle.std.proofs.Common.{◌≡◌, ℕ, ◌⊎◌, inl, inr, Result, Ok, Err, OnOk, OnErr, ap, ◌∙◌}
use Rattle.std.specs.Prelude.{IfOk}
use Rattle.ipam_model.specs.declared.answer.Answer.{Answer}
use Rattle.ipam_model.specs.declared.entry.Entry.{Entry}
use Rattle.ipam_model.specs.declared.entry.Entry.TheVariants as entry
use Rattle.ipam_model.specs.declared.request.Request.{Request}
use Rattle.ipam_model.specs.CanAnswer.{CanAnswer}
use Rattle.ipam_shared.specs.declared.kept.Kept.{Kept}
use Rattle.ipam_shared.specs.Kept.{IsKept, KeepsWith, Tells}
use Rattle.ipam_shared.specs.Solo.{IsAnswered, IsFaulted, IsStopped, NothingRuns}
use Rattle.ipam_shared.specs.Steps.{Begins, CameToEnd, IsStop, IsUnbegun, MayBegin, SoFar, Wants}
use Rattle.ipam_shared.proofs.Ending.{ended, ended-can, ended-idle, ended-kept, far-stays, kept-all, not-begun, runs-now, stays-idle, stays-kept, stop-keeps, stopped, stopped-idle, with-begun}
use Rattle.ipam_shared.proofs.SoloStanding.{there}

-- ---- what is so of an answer, and of an error

pub ok-then : {T E : Type 0} (P Q : T → Type 0) (r : Result T E) → IfOk r P → ((value : T) → P value → Q value) → IfOk r Q
ok-then P Q (Ok value) so then = then value so
ok-then P Q (Err error) so then = tt

pub on-ok-then : {T E : Type 0} {A P : Type 0} (r : Result T E) → OnOk r A → (A → P) → OnOk r P
on-ok-then (Ok value) so then = then so
on-ok-then (Err error) so then = tt

pub err-then : {T E : Type 0} {A P : Type 0} (r : Result T E) → OnErr r A → (A → P) → OnErr r P
err-then (Ok value) so then = tt
err-then (Err error) so then = then so

pub either-then : {T E : Type 0} {A P : Type 0} (Q : T → Type 0) (r : Result T E) → IfOk r Q → OnErr r A → ((value : T) → Q value → P) → (A → P) → P
either-then Q (Ok value) so none well failed = well value so
either-then Q (Err error) so none well failed = failed none

module _ {D : Type 0} (tells : Tells D) (faults name : D → ℕ) (request : Request) (old new : Kept D) where
  -- it began, and came to the answer
  abbrev pub Came : Answer → Type 0
  Came told = (begun : Kept D) × Begins tells request old begun × CameToEnd tells faults name request begun new told

  -- ---- an answer

  pub came-answered : MayBegin tells request old → (told : Answer) → Came told → IsAnswered tells faults request old new told ⊎ IsFaulted tells faults request old new told
  came-answered may told (begun, begins, came) = ended tells faults request old begun new told may.kept may.idle begins.keeps begins.keeper came.ends

  pub came-can : MayBegin tells request old → (told : Answer) → Came told → CanAnswer request told
  came-can may told (begun, begins, came) = ended-can tells faults request old begun new told may.kept begins.keeps came.ends

  pub came-idle : MayBegin tells request old → (told : Answer) → Came told → NothingRuns new
  came-idle may told (begun, begins, came) = ended-idle tells faults request old begun new told may.kept may.idle begins.keeps came.ends

  pub came-kept : MayBegin tells request old → (told : Answer) → Came told → IsKept tells new
  came-kept may told came = ended-kept tells faults request old new told may.kept (came-answered may told came)

  pub came-same : (told : Answer) → Came told → name new.keeper ≡ name old.keeper
  came-same told (begun, begins, came) = came.same ∙ ap name begins.keeper.keeper

-- ---- want of memory

module _ {D : Type 0} (tells : Tells D) (faults name : D → ℕ) (request : Request) (old new : Kept D) (found : Type 0) where
  -- it did not begin; or it did, and was stopped at a step that found no memory
  abbrev pub Wanted : Type 0
  Wanted = (IsUnbegun tells old new × found)
      ⊎ ((begun last : Kept D) × Begins tells request old begun × (Wants tells faults name request begun last × found) × IsStop tells last new)

  pub has-cause : Wanted → found
  has-cause (inl (none, cause)) = cause
  has-cause (inr (begun, last, begins, (wants, cause), stop)) = cause

  -- the steps that were made before
  far-so : (begun last : Kept D) → Wants tells faults name request begun last → SoFar tells faults request begun last
  far-so begun last wants = far-stays tells faults request begun wants.before last wants.went.far wants.unchanged wants.no_step

  stops-so : MayBegin tells request old → (begun last : Kept D) → Begins tells request old begun → Wants tells faults name request begun last → IsStop tells last new → KeepsWith tells last new (entry.Stopped 0)
  stops-so may begun last begins wants stop =
      let runs = runs-now tells faults request begun last (with-begun tells old begun request may.kept begins.keeps) (far-so begun last wants) in
      stop-keeps tells request last new stop.told (there tells request last runs) stop.idle stop.is_stop stop.keeps

  pub wanted-stopped : MayBegin tells request old → Wanted → IsStopped tells faults request old new
  wanted-stopped may (inl (none, cause)) = not-begun tells faults request old new none.unchanged none.keeper
  wanted-stopped may (inr (begun, last, begins, (wants, cause), stop)) =
      stopped tells faults request old begun last new begins.keeps begins.keeper (far-so begun last wants) (stops-so may begun last begins wants stop) stop.keeper

  pub wanted-idle : MayBegin tells request old → Wanted → NothingRuns new
  wanted-idle may (inl (none, cause)) = stays-idle tells old new may.idle none.unchanged
  wanted-idle may (inr (begun, last, begins, (wants, cause), stop)) =
      stopped-idle tells faults request old begun last new may.kept may.idle begins.keeps (far-so begun last wants) stop.idle_after stop.others

  pub wanted-kept : MayBegin tells request old → Wanted → IsKept tells new
  wanted-kept may wanted = let whole = wanted-stopped may wanted in kept-all tells old new whole.entries may.kept whole.keeps

  pub wanted-same : Wanted → name new.keeper ≡ name old.keeper
  wanted-same (inl (none, cause)) = ap name none.keeper.keeper
  wanted-same (inr (begun, last, begins, (wants, cause), stop)) =
      ap name stop.keeper.keeper ∙ (wants.same ∙ (wants.went.same ∙ ap name begins.keeper.keeper))
