-- A kept cluster in which nothing runs, and what one request by itself makes of it.
use Rattle.std.specs.Prelude.{◌≡◌, ◌≢◌, ℕ, ◌⊎◌, List, [], ◌∷◌, ◌++◌, Option, Some, None, IfSome}
use Rattle.ipam_io.specs.Counts.{Rose}
use Rattle.ipam_model.specs.declared.answer.Answer.{Answer}
use Rattle.ipam_model.specs.declared.answer.Answer.TheVariants.{Fault}
use Rattle.ipam_model.specs.declared.entry.Called.{Called}
use Rattle.ipam_model.specs.declared.entry.Entry.{Entry}
use Rattle.ipam_model.specs.declared.entry.Entry.TheVariants as entry
use Rattle.ipam_model.specs.declared.entry.Fate.TheVariants.{Before}
use Rattle.ipam_model.specs.declared.request.Request.{Request}
use Rattle.ipam_model.specs.declared.request.Request.TheVariants.{Collect}
use Rattle.ipam_model.specs.Alone.{IsAlone, alone_over}
use Rattle.ipam_model.specs.History.{Base}
use Rattle.ipam_cluster.specs.Cluster.{slot_of_cluster}
use Rattle.ipam_shared.specs.declared.kept.Kept.{Kept}
use Rattle.ipam_shared.specs.Kept.{KeptFor, Tells}
use Rattle.ipam_shared.specs.Rows.{AreTextsOf}

-- nothing runs
abbrev pub NothingRuns : {D : Type 0} → Kept D → Type 0
NothingRuns kept = (slot : ℕ) → slot_of_cluster kept.cluster slot ≡ None

-- a collection's second list may be made at once
abbrev pub HasNoGrace : Request → Type 0
HasNoGrace (Collect request) = request.grace ≡ 0
HasNoGrace _ = Unit {0}

-- the datastore and the number of entries that there are
abbrev pub base_of : {D : Type 0} → Kept D → Base
base_of kept = record { store = kept.cluster.store.store; first = kept.cluster.entries }

-- whatever history the one is kept for, the other is kept for it with these entries
abbrev pub KeepsWithAll : {D : Type 0} → Tells D → (old new : Kept D) → List Entry → Type 0
KeepsWithAll tells old new added =
    (base : Base) (history : List Entry) → KeptFor tells old base history → KeptFor tells new base (added ++ history)

-- what was in doubt still is, or nothing is
abbrev pub NoMoreDoubt : {D : Type 0} → (old new : Kept D) → Type 0
NoMoreDoubt old new = (new.doubt ≡ old.doubt) ⊎ (new.doubt ≡ None)

-- The keeper did not fail: the request has the answer and leaves the datastore that it has and leaves
-- alone, and the keeper has the datastore's rows.
pub record IsAnswered {D : Type 0} (tells : Tells D) (faults : D → ℕ) (request : Request) (old new : Kept D) (told : Answer) : Type 0 where
  pub no_fault : faults new.keeper ≡ faults old.keeper
  pub not_fault : told ≢ Fault
  pub answer : told ≡ (alone_over (base_of old) request).0
  pub store : new.cluster.store.store ≡ (alone_over (base_of old) request).1
  pub rows : IfSome (tells new.keeper) (λ rows. AreTextsOf rows new.cluster.store.store)
  pub sure : new.doubt ≡ None
  pub last : Called
  pub earlier : List Entry
  pub ends : last.answer ≡ Some told
  pub alone : IsAlone request (entry.Called last ∷ earlier)
  pub keeps : KeepsWithAll tells old new (entry.Called last ∷ earlier)

-- The keeper failed at the last call, and all others were done.
pub record IsFaulted {D : Type 0} (tells : Tells D) (faults : D → ℕ) (request : Request) (old new : Kept D) (told : Answer) : Type 0 where
  pub fault : Rose (faults old.keeper) (faults new.keeper)
  pub is_fault : told ≡ Fault
  pub last : Called
  pub earlier : List Entry
  pub failed : last.fate ≡ Before
  pub own : last.slot ≡ 0
  pub ends : last.answer ≡ Some Fault
  pub alone : IsAlone request earlier
  pub keeps : KeepsWithAll tells old new (entry.Called last ∷ earlier)

-- nothing, or the request by itself and then a stop
abbrev pub IsStoppedAlone : Request → List Entry → Type 0
IsStoppedAlone request [] = Unit {0}
IsStoppedAlone request (entry.Stopped slot ∷ earlier) = (slot ≡ 0) × IsAlone request earlier
IsStoppedAlone request _ = ⊥

-- There was no memory, so the request is stopped where it was, if it began.
pub record IsStopped {D : Type 0} (tells : Tells D) (faults : D → ℕ) (request : Request) (old new : Kept D) : Type 0 where
  pub no_fault : faults new.keeper ≡ faults old.keeper
  pub doubt : NoMoreDoubt old new
  pub entries : List Entry
  pub stopped : IsStoppedAlone request entries
  pub keeps : KeepsWithAll tells old new entries
