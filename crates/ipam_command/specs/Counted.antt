-- A cluster over the generator's base, after a history, and what was counted on it.
use Rattle.std.specs.Prelude.{◌≡◌, ℕ, ◌+◌, ◌<◌, ◌^◌, List, [], ◌∷◌, codes, Option, Some, None}
use Rattle.ipam_records.specs.declared.call.Row.{Row as RowText}
use Rattle.ipam_model.specs.declared.entry.Entry.{Entry}
use Rattle.ipam_model.specs.declared.request.Request.{Request}
use Rattle.ipam_model.specs.declared.request.Request.TheVariants.{Collect}
use Rattle.ipam_model.specs.Cluster.{RunningRequest}
use Rattle.ipam_model.specs.declared.entry.Fate.TheVariants.{Well}
use Rattle.ipam_model.specs.Course.{Event, Turn}
use Rattle.ipam_model.specs.CourseLaw.{event_of}
use Rattle.ipam_cluster.specs.declared.cluster.Cluster.{Cluster}
use Rattle.ipam_cluster.specs.Cluster.{AddsTo, StandsFor, slot_of_cluster}
use Rattle.ipam_command.specs.declared.gen_counted.Counted.{Counted}
use Rattle.ipam_command.specs.Generated.{Collects, IsGeneratedCollection, IsDrawn, slot_at}
use Rattle.ipam_command.specs.Requests.{base}
use Rattle.ipam_command.specs.Summary.{again_count, answer_told, exhausted_count, freed_count, freed_in}

-- ---- a cluster

-- the base's one row, as it is opened
abbrev pub pools_row : RowText
pools_row = record {
  key = codes "pools";
  revision = 1;
  body = codes "{\"pools\":[{\"blockSize\":26,\"cidr\":\"10.0.0.0/16\",\"disabled\":false,\"name\":\"g\"}]}";
}

-- the entry is one of this event, and wherever the one stands the other stands with it
pub record Adds (old new : Cluster) (event : Event) (made : Entry) : Type 0 where
  pub is_event : event_of made ≡ event
  pub adds : AddsTo old new made

-- there was room for one more entry, and there is one more
pub record CountsOne (old new : Cluster) : Type 0 where
  pub few : old.entries < 2 ^ 62
  pub one_more : new.entries ≡ old.entries + 1

-- ---- what is counted

-- it stands after this history, and these answers were counted
pub record IsCounted (counted : Counted) (history : List Entry) : Type 0 where
  pub stands : StandsFor counted.cluster base history
  pub again : counted.again ≡ again_count history
  pub exhausted : counted.exhausted ≡ exhausted_count history

abbrev pub IsSomewhere : Counted → Type 0
IsSomewhere counted = (history : List Entry) × IsCounted counted history

-- this entry is one of this event, and wherever the one stands the other stands with it
pub record HappensAs (old new : Counted) (event : Event) (made : Entry) : Type 0 where
  pub is_event : event_of made ≡ event
  pub counted : (history : List Entry) → IsCounted old history → IsCounted new (made ∷ history)

abbrev pub Happens : (old new : Counted) → Event → Type 0
Happens old new event = (made : Entry) × HappensAs old new event made

-- ---- what runs

abbrev pub IfRuns : (Request → Type 0) → Option RunningRequest → Type 0
IfRuns Holds None = Unit {0}
IfRuns Holds (Some running) = Holds running.request

-- of each request that runs
abbrev pub AllRun : (Request → Type 0) → List Entry → Type 0
AllRun Holds history = (slot : ℕ) → IfRuns Holds (slot_at history slot)

abbrev pub IsNoCollection : Request → Type 0
IsNoCollection (Collect request) = ⊥
IsNoCollection _ = Unit {0}

-- a collection's first list was made at the time 0, and its second may be made at once
abbrev pub IsAtOnce : Request → Type 0
IsAtOnce (Collect request) = (request.at ≡ 0) × (request.grace ≡ 0)
IsAtOnce _ = Unit {0}

-- ---- how far it has come

-- by its draws
pub record IsDrawing (count : ℕ) (counted : Counted) (x begun : ℕ) : Type 0 where
  pub history : List Entry
  pub is_counted : IsCounted counted history
  pub drawn : IsDrawn count x begun history
  pub plain : AllRun IsNoCollection history

-- it stands after a history of which this holds, and no collection runs
pub record IsPlain (counted : Counted) (Holds : List Entry → Type 0) : Type 0 where
  pub history : List Entry
  pub is_counted : IsCounted counted history
  pub plain : AllRun IsNoCollection history
  pub holds : Holds history

-- whatever history the one stands after without a collection, the other stands after one that holds of it
abbrev pub Leads : (old new : Counted) → (Holds : List Entry → List Entry → Type 0) → Type 0
Leads old new Holds = (before : List Entry) → IsCounted old before → AllRun IsNoCollection before → IsPlain new (Holds before)

-- a collection runs, and its newest entry reports so many freed addresses
pub record IsCollecting (counted : Counted) (live : List (List ℕ)) (before : List Entry) (freed : ℕ) : Type 0 where
  pub history : List Entry
  pub is_counted : IsCounted counted history
  pub at_once : AllRun IsAtOnce history
  pub collects : Collects live before history
  pub is_freed : freed ≡ freed_count history

-- it stands after this history, whose newest entry reports nothing freed
pub record IsStart (counted : Counted) (before : List Entry) : Type 0 where
  pub is_counted : IsCounted counted before
  pub at_once : AllRun IsAtOnce before
  pub nothing : freed_count before ≡ 0

-- wherever the one starts, the other collects
abbrev pub Goes : (old new : Counted) → (live : List (List ℕ)) → (freed : ℕ) → Type 0
Goes old new live freed = (before : List Entry) → IsStart old before → IsCollecting new live before freed

-- slot 0 takes a turn, whose entry reports so many freed addresses
pub record Turns (old new : Counted) (freed : ℕ) : Type 0 where
  pub made : Entry
  pub happens : HappensAs old new (Turn 0 Well) made
  pub is_freed : freed ≡ freed_in (answer_told made)

-- the collection ran after this history
pub record HasCollected (counted : Counted) (count : ℕ) (before : List Entry) (freed : ℕ) : Type 0 where
  pub history : List Entry
  pub is_counted : IsCounted counted history
  pub collected : IsGeneratedCollection count before history
  pub is_freed : freed ≡ freed_count history
