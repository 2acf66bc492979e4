-- What a turn of a pass does, and what it answers.
use Rattle.std.specs.Prelude.{◌≡◌, ◌+◌, ℕ, ⊤, List, ◌++◌, drop, length, Option, Some, None, Result, Ok, Err}
use Rattle.turn_lock.specs.Histories.{AtMostOneBy, NoneBy}
use Rattle.ipam_collect.specs.declared.collect.Grace.{Grace}
use Rattle.ipam_model.specs.declared.entry.Entry.{Entry}
use Rattle.ipam_model.specs.declared.entry.SlotState.TheVariants as state
use Rattle.ipam_model.specs.Cluster.{RunningRequest, state_of}
use Rattle.ipam_model.specs.History.{moment_of, slot_of_entry}
use Rattle.ipam_cluster.specs.Running.{grace_of}
use Rattle.ipam_shared.specs.declared.kept.Kept.{Kept}
use Rattle.ipam_shared.specs.Feed.{FedFor}
use Rattle.ipam_shared.specs.Kept.{KeptFor, Tells}
use Rattle.ipam_shared.specs.Sure.{SureFor}
use Rattle.ipam_shared.specs.declared.faults.SharedFault.{SharedFault}
use Rattle.ipam_shared.specs.declared.faults.SharedFault.TheVariants.{SpentPass, Inner}
use Rattle.ipam_shared.specs.declared.faults.SpentPass.{SpentPass as Spent}
use Rattle.ipam_shared.specs.Deeds.{told_by, told_if}
use Rattle.ipam_shared.specs.PassValue.{PassValue}
use Rattle.ipam_shared.specs.Passes.{IsSamePass, IsTold}

-- ---- answers

-- a fact where there was no turn, and one where there was
abbrev pub OnSpent : {T E : Type 0} → Result T (SharedFault E) → Type 0 → Type 0
OnSpent (Ok told) p = ⊤
OnSpent (Err SpentPass) p = p
OnSpent (Err (Inner fault)) p = ⊤

abbrev pub UnlessSpent : {T E : Type 0} → Result T (SharedFault E) → Type 0 → Type 0
UnlessSpent (Ok told) p = p
UnlessSpent (Err SpentPass) p = ⊤
UnlessSpent (Err (Inner fault)) p = p

-- the entries that a stop tells of: one, or none
abbrev pub told_stopped : Result (Option Entry) Spent → List Entry
told_stopped (Ok told) = told_if told
told_stopped (Err spent) = told_by (Err spent)

-- what the turn of a pass answers of what its deed did; there is none where there was no turn
abbrev pub answer_of : {T E : Type 0} → Option (Result T E) → Result T (SharedFault E)
answer_of None = Err SpentPass
answer_of (Some (Ok told)) = Ok told
answer_of (Some (Err fault)) = Err (Inner fault)

-- ---- the history

-- After a turn the pass has seen the entries that it told of, the last of all, and before them those
-- of others that came since its turn before.
pub record SeesNext (old : PassValue) (told : List Entry) (new : PassValue) : Type 0 where
  pub between : List Entry
  pub seen : new.seen ≡ told ++ (between ++ old.seen)
  pub others : NoneBy slot_of_entry old.slot between
  pub own : AtMostOneBy slot_of_entry old.slot told

-- the history that a turn met: what the pass has seen now, but for what the turn told of
abbrev pub met : (told : List Entry) → PassValue → List Entry
met told new = drop (length told) new.seen

-- the moment of a turn
abbrev pub moment_met : (told : List Entry) → PassValue → ℕ
moment_met told new = moment_of new.base (met told new)

-- The turn was made on a kept cluster, which was kept and fed for the history that it met, and then
-- for what the pass has seen now; and this was done to it.
pub record WasDone {D : Type 0} (tells : Tells D) (did : (before after : Kept D) → Type 0) (told : List Entry) (new : PassValue) : Type 0 where
  pub before : Kept D
  pub after : Kept D
  pub stood : KeptFor tells before new.base (met told new)
  pub fed : FedFor tells before new.base (met told new)
  pub deed : did before after
  pub stands : KeptFor tells after new.base new.seen

-- all of it; and the keeper was then sure of what it had at a moment of what the pass has seen
pub record HadTurn {D : Type 0} (tells sure : Tells D) (did : (before after : Kept D) → Type 0) (old : PassValue) (told : List Entry) (new : PassValue) : Type 0 where
  pub left : new.left + 1 ≡ old.left
  pub same : IsSamePass old new
  pub sees : SeesNext old told new
  pub knows : IsTold old new
  pub done : WasDone tells did told new
  pub is_sure : SureFor sure done.after new.base new.seen

-- ---- the slot

-- a collection waits, which has these times
abbrev pub times_of : Option RunningRequest → Option Grace
times_of None = None
times_of (Some running) = grace_of running.request

abbrev pub WaitsFor : Option RunningRequest → Grace → Type 0
WaitsFor runs grace = (state_of runs ≡ state.Waiting) × (times_of runs ≡ Some grace)
