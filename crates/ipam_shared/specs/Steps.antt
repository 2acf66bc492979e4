-- The steps of a request that runs by itself in slot 0, one by one.
use Rattle.std.specs.Prelude.{◌≡◌, ◌<◌, ℕ, ◌+◌, ◌^◌, ◌⊎◌, List, [], ◌∷◌, Option, Some, None, IfSome, IsNone}
use Rattle.ipam_io.specs.Counts.{Rose}
use Rattle.ipam_model.specs.declared.answer.Answer.{Answer}
use Rattle.ipam_model.specs.declared.answer.Answer.TheVariants.{Fault}
use Rattle.ipam_model.specs.declared.entry.Called.{Called}
use Rattle.ipam_model.specs.declared.entry.Entry.{Entry}
use Rattle.ipam_model.specs.declared.entry.Entry.TheVariants as entry
use Rattle.ipam_model.specs.declared.entry.Fate.TheVariants.{Well, Before}
use Rattle.ipam_model.specs.declared.request.Request.{Request}
use Rattle.ipam_model.specs.Alone.{IsFirstList}
use Rattle.ipam_model.specs.History.{Base, cluster_at}
use Rattle.ipam_model.specs.Moments.{request_in}
use Rattle.ipam_model.specs.SoundRequest.{IsSoundRequest}
use Rattle.ipam_cluster.specs.Cluster.{slot_of_cluster}
use Rattle.ipam_shared.specs.declared.kept.Kept.{Kept}
use Rattle.ipam_shared.specs.Kept.{IsKept, KeptFor, KeepsWith, LeavesKeeper, Stays, Tells}
use Rattle.ipam_shared.specs.Solo.{HasNoGrace, KeepsWithAll, NoMoreDoubt, NothingRuns}

-- slot 0 runs the request
pub record Runs {D : Type 0} (tells : Tells D) (request : Request) (kept : Kept D) : Type 0 where
  pub base : Base
  pub history : List Entry
  pub kept_for : KeptFor tells kept base history
  pub runs : request_in (cluster_at base history) 0 ≡ Some request

-- there was room for one more entry, and there is one more
pub record CountsOne {D : Type 0} (old new : Kept D) : Type 0 where
  pub few : old.cluster.entries < 2 ^ 62
  pub one_more : new.cluster.entries ≡ old.cluster.entries + 1

-- ---- the beginning and the stop

-- the request is sound and may be fed at once, and nothing runs
pub record MayBegin {D : Type 0} (tells : Tells D) (request : Request) (old : Kept D) : Type 0 where
  pub sound : IsSoundRequest request
  pub no_grace : HasNoGrace request
  pub idle : NothingRuns old
  pub kept : IsKept tells old

-- the request began in slot 0
pub record Begins {D : Type 0} (tells : Tells D) (request : Request) (old new : Kept D) : Type 0 where
  pub keeps : KeepsWith tells old new (entry.Began 0 request)
  pub keeper : LeavesKeeper old new

-- it did not begin, and nothing has changed
pub record IsUnbegun {D : Type 0} (tells : Tells D) (old new : Kept D) : Type 0 where
  pub unchanged : Stays tells old new
  pub keeper : LeavesKeeper old new

-- slot 0 was stopped, whether or not something ran there
pub record IsStop {D : Type 0} (tells : Tells D) (old new : Kept D) : Type 0 where
  pub told : Option Entry
  pub idle : IsNone told → slot_of_cluster old.cluster 0 ≡ None
  pub is_stop : IfSome told (λ e. e ≡ entry.Stopped 0)
  pub keeps : IfSome told (KeepsWith tells old new)
  pub idle_after : slot_of_cluster new.cluster 0 ≡ None
  pub others : (other : ℕ) → ¬ (other ≡ 0) → slot_of_cluster new.cluster other ≡ slot_of_cluster old.cluster other
  pub keeper : LeavesKeeper old new

-- ---- a call

-- the answer that an entry tells, if any
abbrev pub answer_told : Entry → Option Answer
answer_told (entry.Called c) = c.answer
answer_told _ = None

-- the call was done
pub record IsDoneCall {D : Type 0} (tells : Tells D) (faults : D → ℕ) (old new : Kept D) (told : Option Answer) : Type 0 where
  pub call : Called
  pub own : call.slot ≡ 0
  pub well : call.fate ≡ Well
  pub answer : call.answer ≡ told
  pub keeps : KeepsWith tells old new (entry.Called call)
  pub no_fault : faults new.keeper ≡ faults old.keeper
  pub sure : new.doubt ≡ None

-- the keeper failed at the call
pub record IsFailedCall {D : Type 0} (tells : Tells D) (faults : D → ℕ) (old new : Kept D) (told : Option Answer) : Type 0 where
  pub call : Called
  pub own : call.slot ≡ 0
  pub failed : call.fate ≡ Before
  pub answer : call.answer ≡ told
  pub is_fault : told ≡ Some Fault
  pub keeps : KeepsWith tells old new (entry.Called call)
  pub fault : Rose (faults old.keeper) (faults new.keeper)

-- ---- a list

-- the collection was fed its first list
pub record IsFed {D : Type 0} (tells : Tells D) (request : Request) (old new : Kept D) : Type 0 where
  pub at : ℕ
  pub live : List (List ℕ)
  pub first : IsFirstList request at live
  pub keeps : KeepsWith tells old new (entry.Fed 0 at live)
  pub keeper : LeavesKeeper old new

-- ---- a step of either kind

abbrev pub IsCallOrFeed : {D : Type 0} → Tells D → (D → ℕ) → Request → (old new : Kept D) → Option Answer → Type 0
IsCallOrFeed tells faults request old new told =
    (IsDoneCall tells faults old new told ⊎ IsFailedCall tells faults old new told)
    ⊎ (IsFed tells request old new × (told ≡ None))

pub record IsStep {D : Type 0} (tells : Tells D) (faults : D → ℕ) (request : Request) (old new : Kept D) (told : Option Answer) : Type 0 where
  pub step : IsCallOrFeed tells faults request old new told
  pub counts : CountsOne old new

-- nothing came of it
pub record IsNoStep {D : Type 0} (faults : D → ℕ) (old new : Kept D) : Type 0 where
  pub no_fault : faults new.keeper ≡ faults old.keeper
  pub doubt : NoMoreDoubt old new

-- ---- all steps so far

-- calls that were done without an answer, and first lists
abbrev pub GoesOn : Request → List Entry → Type 0
GoesOn request [] = Unit {0}
GoesOn request (entry.Called c ∷ steps) = (c.slot ≡ 0) × (c.fate ≡ Well) × (c.answer ≡ None) × GoesOn request steps
GoesOn request (entry.Fed slot at live ∷ steps) = (slot ≡ 0) × IsFirstList request at live × GoesOn request steps
GoesOn request (entry.Began slot other ∷ steps) = ⊥
GoesOn request (entry.Stopped slot ∷ steps) = ⊥

-- the request has gone on, and was not answered
pub record SoFar {D : Type 0} (tells : Tells D) (faults : D → ℕ) (request : Request) (old new : Kept D) : Type 0 where
  pub steps : List Entry
  pub goes_on : GoesOn request steps
  pub keeps : KeepsWithAll tells old new steps
  pub no_fault : faults new.keeper ≡ faults old.keeper
  pub doubt : NoMoreDoubt old new

-- it went on, and then came the answer by a call that was done
pub record Answers {D : Type 0} (tells : Tells D) (faults : D → ℕ) (request : Request) (old new : Kept D) (told : Answer) : Type 0 where
  pub before : Kept D
  pub so_far : SoFar tells faults request old before
  pub last : IsDoneCall tells faults before new (Some told)

-- or by one at which the keeper failed
pub record Faults {D : Type 0} (tells : Tells D) (faults : D → ℕ) (request : Request) (old new : Kept D) (told : Answer) : Type 0 where
  pub before : Kept D
  pub so_far : SoFar tells faults request old before
  pub last : IsFailedCall tells faults before new (Some told)

abbrev pub Ends : {D : Type 0} → Tells D → (D → ℕ) → Request → (old new : Kept D) → Answer → Type 0
Ends tells faults request old new told =
    Answers tells faults request old new told ⊎ Faults tells faults request old new told

-- ---- a request that goes on

-- slot 0 runs the request, which is sound and may be fed at once
pub record MayGoOn {D : Type 0} (tells : Tells D) (request : Request) (kept : Kept D) : Type 0 where
  pub sound : IsSoundRequest request
  pub no_grace : HasNoGrace request
  pub runs : Runs tells request kept

module _ {D : Type 0} (tells : Tells D) (faults name : D → ℕ) (request : Request) where
  -- it went on, over the same keeper
  pub record WentOn (old new : Kept D) : Type 0 where
    pub far : SoFar tells faults request old new
    pub same : name new.keeper ≡ name old.keeper

  -- it went on to its answer
  pub record CameToEnd (old new : Kept D) (told : Answer) : Type 0 where
    pub ends : Ends tells faults request old new told
    pub same : name new.keeper ≡ name old.keeper

  -- It went on, and then a step found no memory, of which nothing came.
  pub record Wants (old new : Kept D) : Type 0 where
    pub before : Kept D
    pub went : WentOn old before
    pub unchanged : Stays tells before new
    pub no_step : IsNoStep faults before new
    pub same : name new.keeper ≡ name before.keeper
