-- What a session's turns come to.
use Rattle.std.specs.Prelude.{◌≡◌, ℕ, ◌+◌, ◌<◌, ◌≤◌, true, false, List, [], ◌∷◌, Option, Some, None, Result, IfSome, IfNone, OnOk, option_map}
use Rattle.ipam_model.specs.declared.answer.Answer.{Answer}
use Rattle.ipam_model.specs.declared.entry.Called.{Called as OneCall}
use Rattle.ipam_model.specs.declared.entry.Entry.{Entry}
use Rattle.ipam_model.specs.declared.entry.Entry.TheVariants as entry
use Rattle.ipam_model.specs.declared.request.Request.{Request}
use Rattle.ipam_model.specs.CanAnswer.{CanAnswer}
use Rattle.ipam_model.specs.History.{store_at}
use Rattle.ipam_store.specs.declared.feed_fault.SinceFault.{SinceFault}
use Rattle.ipam_store.specs.declared.feed_fault.SinceFault.TheVariants as fault_of
use Rattle.ipam_session.specs.declared.route.Since.{Since}
use Rattle.ipam_session.specs.declared.route.Since.TheVariants.{Ahead, Compacted}
use Rattle.ipam_shared.specs.declared.faults.SharedFault.{SharedFault}
use Rattle.ipam_shared.specs.declared.faults.SharedFault.TheVariants.{Inner, SpentPass}
use Rattle.ipam_shared.specs.Feed.{floor_in}
use Rattle.ipam_shared.specs.PassValue.{PassValue}
use Rattle.ipam_shared.specs.Passes.{runs_in}
use Rattle.ipam_serve.specs.declared.ran.Broken.{Broken}
use Rattle.ipam_serve.specs.declared.ran.Ran.{Ran}
use Rattle.ipam_serve.specs.declared.ran.Ran.TheVariants.{Answered, Waits}
use Rattle.ipam_serve.specs.declared.turns.Feeding.{Feeding}
use Rattle.ipam_serve.specs.declared.turns.Feeding.TheVariants as feeding
use Rattle.ipam_serve.specs.Faults.{OnHalted, OnWorn}
use Rattle.ipam_serve.specs.Gains.{TookTurns, request_running, is_early, is_waiting}

-- what an entry tells of a call's answer
abbrev pub answer_told : Entry → Option Ran
answer_told (entry.Called c) = option_map Answered c.answer
answer_told (entry.Began slot request) = None
answer_told (entry.Fed slot at live) = None
answer_told (entry.Stopped slot) = None

-- a call was made, which has this answer or none
pub record Made (old : PassValue) (answer : Option Answer) (new : PassValue) : Type 0 where
  pub made : OneCall
  pub own : made.slot ≡ old.slot
  pub answers : made.answer ≡ answer
  pub took : TookTurns old (entry.Called made ∷ []) 0 new

-- what a turn came to for what runs: a call without an answer, one with an answer that its request can
-- have, or that it waits
abbrev pub Called : PassValue → Option Ran → PassValue → Type 0
Called old None new = Made old None new
Called old (Some (Answered told)) new =
    Made old (Some told) new
    × ((request : Request) → request_running (runs_in old) ≡ Some request → CanAnswer request told)
Called old (Some Waits) new = TookTurns old [] 1 new × (is_waiting (runs_in new) ≡ true)

-- what a turn came to for a second list
abbrev pub Fed : PassValue → List (List ℕ) → (at : ℕ) → Feeding → PassValue → Type 0
Fed old live at feeding.Fed new =
    TookTurns old (entry.Fed old.slot at live ∷ []) 0 new × (is_early (runs_in old) at ≡ false)
Fed old live at feeding.TooSoon new =
    TookTurns old [] 1 new × (is_early (runs_in old) at ≡ true) × (is_waiting (runs_in new) ≡ true)

-- the changes after the revision are still known, and the revision is not ahead
abbrev pub IsInFeed : PassValue → (revision : ℕ) → Type 0
IsInFeed pass revision =
    (floor_in pass.base pass.seen ≤ revision) × (revision ≤ (store_at pass.base pass.seen).counter)

-- the fault tells this of the routes
abbrev pub IsToldOf : SharedFault SinceFault → Since → Type 0
IsToldOf SpentPass since = ⊥
IsToldOf (Inner (fault_of.Compacted floor)) since = since ≡ Compacted floor
IsToldOf (Inner (fault_of.Ahead counter)) since = since ≡ Ahead counter
IsToldOf (Inner fault_of.Memory) since = ⊥

-- One turn was taken, by which the slot gained nothing and what runs still does; or too few were left. No gate
-- was passed.
pub record TakesOne {T : Type 0} (result : Result T Broken) (old new : PassValue) : Type 0 where
  pub took : TookTurns old [] 1 new
  pub one : OnOk result (new.left + 1 ≡ old.left)
  pub runs : runs_in new ≡ runs_in old
  pub worn : OnWorn result ((new ≡ old) × (new.left < 2))
  pub not_halted : OnHalted result ⊥

-- One turn was taken for a look, by which the slot gained nothing and what runs still does; or too few were
-- left, and nothing was seen.
pub record TakesLook {T : Type 0} (told : Option T) (old new : PassValue) : Type 0 where
  pub took : TookTurns old [] 1 new
  pub one : IfSome told (λ value. new.left + 1 ≡ old.left)
  pub runs : runs_in new ≡ runs_in old
  pub worn : IfNone told ((new ≡ old) × (new.left < 2))
