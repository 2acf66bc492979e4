-- What came of a slot's calls at the keeper.
use Rattle.std.specs.Prelude.{◌≡◌, ◌≢◌, ◌⊎◌, ℕ, List, [], ◌∷◌, ◌++◌, Option, Some}
use Rattle.ipam_model.specs.declared.answer.Answer.{Answer}
use Rattle.ipam_model.specs.declared.answer.Answer.TheVariants.{Fault}
use Rattle.ipam_model.specs.declared.entry.Called.{Called as OneCall}
use Rattle.ipam_model.specs.declared.entry.Entry.{Entry}
use Rattle.ipam_model.specs.declared.entry.Entry.TheVariants as entry
use Rattle.ipam_model.specs.History.{Base}
use Rattle.ipam_shared.specs.declared.kept.Kept.{Kept}
use Rattle.ipam_shared.specs.Giving.{Gives}
use Rattle.ipam_shared.specs.Kept.{KeptFor, Tells}
use Rattle.ipam_shared.specs.KeptTurning.{IsDone, IsFailed}
use Rattle.ipam_shared.specs.PassValue.{PassValue}
use Rattle.ipam_shared.specs.Settling.{FailsToSettle, FindsNoMemory, WasSettled}
use Rattle.ipam_shared.specs.Turning.{SeesNext, WasDone}
use Rattle.ipam_serve.specs.Calls.{EachCall}

module _ {D : Type 0} (tells : Tells D) (gives : Gives D) (faults : D → ℕ) where
  -- The call was done, the keeper's count of faults stands, and the answer is no fault; or the call
  -- failed, the count rose, and the answer is a fault.
  abbrev pub IsByKeeper : (slot : ℕ) → OneCall → (before after : Kept D) → Type 0
  IsByKeeper slot call before after =
      (IsDone faults slot before after (entry.Called call) × (call.answer ≢ Some Fault))
      ⊎ (IsFailed gives faults slot before after (entry.Called call) × (call.answer ≡ Some Fault))

  -- the call was made on the kept cluster, which stood for these earlier entries, and then for the call's too
  pub record WasMade (base : Base) (slot : ℕ) (call : OneCall) (earlier : List Entry) : Type 0 where
    pub before : Kept D
    pub after : Kept D
    pub stood : KeptFor tells before base earlier
    pub is : IsByKeeper slot call before after
    pub stands : KeptFor tells after base (entry.Called call ∷ earlier)

  -- each call that the slot gained was made so
  abbrev pub MakesCalls : (old new : PassValue) → Type 0
  MakesCalls old new = EachCall WasMade old new

  -- a call that the slot gained failed, and the keeper's count of faults rose in its turn
  pub record KeeperFailed (old new : PassValue) : Type 0 where
    pub call : OneCall
    pub later : List Entry
    pub earlier : List Entry
    pub seen : new.seen ≡ later ++ entry.Called call ∷ (earlier ++ old.seen)
    pub made : WasMade old.base old.slot call (earlier ++ old.seen)
    pub failed : IsFailed gives faults old.slot made.before made.after (entry.Called call)

  -- What came at the keeper of a line with this answer, or with none: where the answer is a fault, the
  -- keeper failed at a call of the line.
  pub record CameOf (answer : Option Answer) (old new : PassValue) : Type 0 where
    pub calls : MakesCalls old new
    pub fault : answer ≡ Some Fault → KeeperFailed old new

-- ---- all that comes at the keeper

-- What came of a line's calls, by the line's answer and the pass before and after it; what a pass stands for
-- once it made sure of all that it had learned; and what a turn was in which the keeper failed to, or found no
-- memory.
pub record AtKeeper : Type 1 where
  pub came : Option Answer → (old new : PassValue) → Type 0
  pub settled : PassValue → Type 0
  pub failed : (old new : PassValue) → Type 0
  pub starved : (old new : PassValue) → Type 0

module _ {D : Type 0} (tells sure : Tells D) (gives : Gives D) (faults : D → ℕ) (broken : D → Type 0) where
  -- in the turn the keeper failed to make sure of what it had, and its count of faults rose
  pub record FailedToSettle (old new : PassValue) : Type 0 where
    pub sees : SeesNext old [] new
    pub done : WasDone tells (FailsToSettle tells sure faults broken old.moment) [] new

  -- in the turn the keeper found no memory to make sure of it, and did not fail
  pub record FoundNoMemory (old new : PassValue) : Type 0 where
    pub sees : SeesNext old [] new
    pub done : WasDone tells (FindsNoMemory tells sure faults broken old.moment) [] new

  -- so it is at a keeper that tells these rows, and these to be sure
  abbrev pub at_keeper : AtKeeper
  at_keeper = record {
    came = CameOf tells gives faults;
    settled = WasSettled tells sure;
    failed = FailedToSettle;
    starved = FoundNoMemory;
  }
