-- What is done to the kept cluster in the turns of a pass, as the kept cluster itself says it.
use Rattle.std.specs.Global.{Vec}
use Rattle.std.specs.Prelude.{◌≡◌, ◌↔◌, ◌⊎◌, ◌<◌, ◌≤◌, ◌+◌, ◌^◌, ℕ, List, [], ◌∷◌, Option, Some, None, Result, Ok, Err, IsSome, IfOk, IfErr, IfSome}
use Rattle.ipam_model.specs.declared.entry.Entry.{Entry}
use Rattle.ipam_model.specs.declared.entry.Entry.TheVariants as entry
use Rattle.ipam_model.specs.declared.entry.SlotState.TheVariants as state
use Rattle.ipam_model.specs.declared.request.Request.{Request}
use Rattle.ipam_store.specs.declared.route.Route.{Route}
use Rattle.ipam_store.specs.declared.change.Change.{Change}
use Rattle.ipam_store.specs.declared.feed_fault.SinceFault.{SinceFault}
use Rattle.ipam_store.specs.declared.feed_fault.SinceFault.TheVariants as since_fault
use Rattle.ipam_model.specs.History.{Base}
use Rattle.ipam_collect.specs.declared.collect.Grace.{Grace}
use Rattle.ipam_cluster.specs.declared.faults.BeginFault.{BeginFault}
use Rattle.ipam_cluster.specs.declared.faults.BeginFault.TheVariants as begin_fault
use Rattle.ipam_cluster.specs.declared.faults.FeedFault.{FeedFault}
use Rattle.ipam_cluster.specs.declared.faults.FeedFault.TheVariants as feed_fault
use Rattle.ipam_cluster.specs.declared.faults.PrepareFault.{PrepareFault}
use Rattle.ipam_cluster.specs.declared.faults.PrepareFault.TheVariants as prepare_fault
use Rattle.ipam_cluster.specs.Cluster.{slot_of_cluster, state_in, WaitsWith}
use Rattle.ipam_shared.specs.declared.kept.Kept.{Kept}
use Rattle.ipam_shared.specs.Feed.{AreChanges, AreRoutes, FedFor, IsAhead, IsCompacted}
use Rattle.ipam_shared.specs.Giving.{Gives}
use Rattle.ipam_shared.specs.Kept.{LeavesKeeper, Tells}
use Rattle.ipam_shared.specs.KeptTurning.{IsDone, IsFailed, IsRefused}

-- the entry that an answer tells of, if any
abbrev pub told_by : {E : Type 0} → Result Entry E → List Entry
told_by (Ok told) = told ∷ []
told_by (Err fault) = []

abbrev pub told_if : Option Entry → List Entry
told_if None = []
told_if (Some told) = told ∷ []

module _ {D : Type 0} (slot : ℕ) (before : Kept D) where
  -- a request was begun, or was not
  pub record Begins (request : Request) (answer : Result Entry BeginFault) (after : Kept D) : Type 0 where
    pub busy : (answer ≡ Err begin_fault.SlotBusy) ↔ IsSome (slot_of_cluster before.cluster slot)
    pub worn : (answer ≡ Err begin_fault.Worn) ↔ (slot_of_cluster before.cluster slot ≡ None × 2 ^ 62 ≤ before.cluster.entries)
    pub entry : IfOk answer (λ began. began ≡ entry.Began slot request)
    pub keeper : LeavesKeeper before after

  -- a second list was fed, or was not
  pub record Feeds (live : List (List ℕ)) (at : ℕ) (answer : Result Entry FeedFault) (after : Kept D) : Type 0 where
    pub not_waiting : (answer ≡ Err feed_fault.NotWaiting) ↔ ¬ (state_in (slot_of_cluster before.cluster slot) ≡ state.Waiting)
    pub too_soon : (since grace : ℕ) → ((answer ≡ Err (feed_fault.TooSoon since grace))
        ↔ (WaitsWith (slot_of_cluster before.cluster slot) (record { at = since; grace = grace }) × at < since + grace))
    pub worn : (answer ≡ Err feed_fault.Worn) ↔ (2 ^ 62 ≤ before.cluster.entries
        × (grace : Grace) × WaitsWith (slot_of_cluster before.cluster slot) grace × grace.at + grace.grace ≤ at)
    pub entry : IfOk answer (λ fed. fed ≡ entry.Fed slot at live)
    pub keeper : LeavesKeeper before after

  -- a call was made, done or not, or was not
  pub record Calls (gives : Gives D) (faults : D → ℕ) (answer : Result Entry PrepareFault) (after : Kept D) : Type 0 where
    pub idle : (answer ≡ Err prepare_fault.SlotIdle) ↔ (slot_of_cluster before.cluster slot ≡ None)
    pub waiting : (answer ≡ Err prepare_fault.Waiting) ↔ (state_in (slot_of_cluster before.cluster slot) ≡ state.Waiting)
    pub worn : (answer ≡ Err prepare_fault.Worn) ↔ (2 ^ 62 ≤ before.cluster.entries × state_in (slot_of_cluster before.cluster slot) ≡ state.Running)
    pub turned : IfOk answer (λ told. IsDone faults slot before after told ⊎ IsFailed gives faults slot before after told)
    pub refused : IfErr answer (λ fault. IsRefused faults before after)

  -- what ran was stopped, or nothing did
  pub record Stops (answer : Option Entry) (after : Kept D) : Type 0 where
    pub idle : (answer ≡ None) ↔ (slot_of_cluster before.cluster slot ≡ None)
    pub entry : IfSome answer (λ stopped. stopped ≡ entry.Stopped slot)
    pub idle_after : slot_of_cluster after.cluster slot ≡ None
    pub keeper : LeavesKeeper before after

-- the answer has the routes, or is a fault
abbrev pub TellsRoutes : {D E : Type 0} → Tells D → (before : Kept D) → Result (ℕ × Vec Route) E → Type 0
TellsRoutes tells before answer =
    IfOk answer (λ told. (base : Base) (history : List Entry) → FedFor tells before base history → AreRoutes base history told.0 told.1.items)

-- the answer has what became of the routes since a revision, or says why it can't
pub record TellsChanges {D : Type 0} (tells : Tells D) (before : Kept D) (revision : ℕ) (answer : Result (ℕ × Vec Change) SinceFault) : Type 0 where
  pub changes : IfOk answer (λ told. (base : Base) (history : List Entry) → FedFor tells before base history → AreChanges base history revision told.0 told.1.items)
  pub compacted : (base : Base) (history : List Entry) (floor : ℕ) → FedFor tells before base history
      → ((answer ≡ Err (since_fault.Compacted floor)) ↔ IsCompacted base history revision floor)
  pub ahead : (base : Base) (history : List Entry) (counter : ℕ) → FedFor tells before base history
      → ((answer ≡ Err (since_fault.Ahead counter)) ↔ IsAhead base history revision counter)
