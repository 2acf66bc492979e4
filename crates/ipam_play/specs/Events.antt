-- What events do to a cluster, and to each history that it stands for.
use Rattle.std.specs.Prelude.{◌≡◌, List, [], ◌∷◌, ◌++◌, ◌⊎◌, None, Result, Ok, Err}
use Rattle.ipam_model.specs.declared.entry.Entry.{Entry}
use Rattle.ipam_model.specs.Course.{Event, EventRefusal, Busy, Idle, Waiting, NotWaiting, TooSoon, Worn, course, entries_of}
use Rattle.ipam_model.specs.History.{Base, cluster_at}
use Rattle.ipam_cluster.specs.declared.cluster.Cluster.{Cluster}
use Rattle.ipam_cluster.specs.Cluster.{StandsFor}
use Rattle.ipam_play.specs.declared.fault.PlayFault.{PlayFault}
use Rattle.ipam_play.specs.declared.fault.PlayFault.TheVariants as fault

-- entries, the oldest first, put onto a history, which has the newest first
abbrev pub onto : List Entry → List Entry → List Entry
onto [] history = history
onto (new ∷ made) history = onto made (new ∷ history)

-- the fault that stands for a refusal
abbrev pub fault_of : EventRefusal → PlayFault
fault_of Busy = fault.Busy
fault_of Idle = fault.Idle
fault_of Waiting = fault.Waiting
fault_of NotWaiting = fault.NotWaiting
fault_of (TooSoon at grace) = fault.TooSoon
fault_of Worn = fault.Worn

-- ---- one event

-- the event makes this entry, wherever the cluster stands
pub record Makes (old new : Cluster) (event : Event) (made : Entry) : Type 0 where
  pub stands : (base : Base) (history : List Entry) → StandsFor old base history → StandsFor new base (made ∷ history)
  pub made_by : (base : Base) (history : List Entry) → StandsFor old base history
      → entries_of (cluster_at base history) event ≡ Ok (made ∷ [])

-- the event is refused, wherever the cluster stands
abbrev pub Refuses : Cluster → Event → EventRefusal → Type 0
Refuses cluster event refusal =
    (base : Base) (history : List Entry) → StandsFor cluster base history
    → entries_of (cluster_at base history) event ≡ Err refusal

-- after these entries the event is refused, wherever the cluster stands, and told so
pub record IsToldBy (cluster : Cluster) (made : List Entry) (event : Event) (told : PlayFault) : Type 0 where
  pub refusal : EventRefusal
  pub is_told : told ≡ fault_of refusal
  pub refuses : (base : Base) (history : List Entry) → StandsFor cluster base history
      → entries_of (cluster_at base (onto made history)) event ≡ Err refusal

-- after these entries the event happens, wherever the cluster stands, if there is memory for it
abbrev pub MayMake : Cluster → List Entry → Event → Type 0
MayMake cluster made event =
    (base : Base) (history : List Entry) → StandsFor cluster base history
    → (more : List Entry) × (entries_of (cluster_at base (onto made history)) event ≡ Ok more)

-- why an event did not happen: it is refused, or it would happen and there was no memory for it
abbrev pub IsCause : Cluster → List Entry → Event → PlayFault → Type 0
IsCause cluster made event told = ((told ≡ fault.Memory) × MayMake cluster made event) ⊎ IsToldBy cluster made event told

-- what the one stands for, the other stands for
abbrev pub Keeps : (old new : Cluster) → Type 0
Keeps old new = (base : Base) (history : List Entry) → StandsFor old base history → StandsFor new base history

-- ---- events one after another

-- these entries are made of the events, wherever the cluster stands
pub record Plays (old new : Cluster) (events : List Event) (made : List Entry) : Type 0 where
  pub stands : (base : Base) (history : List Entry) → StandsFor old base history → StandsFor new base (onto made history)
  pub made_by : (base : Base) (history : List Entry) → StandsFor old base history
      → course (cluster_at base history) events ≡ record { entries = made; refused = None }

-- all of the events happened, and the journal tells of them
pub record Happens (old new : Cluster) (before after : List Entry) (events : List Event) : Type 0 where
  pub made : List Entry
  pub added : after ≡ before ++ made
  pub plays : Plays old new events made

-- the events before one that did not happen happened, and the journal tells of them
pub record Stops (old new : Cluster) (before after : List Entry) (events : List Event) (told : PlayFault) : Type 0 where
  pub first : List Event
  pub next : Event
  pub rest : List Event
  pub is_first : events ≡ first ++ next ∷ rest
  pub made : List Entry
  pub added : after ≡ before ++ made
  pub plays : Plays old new first made
  pub cause : IsCause old made next told

-- what came of the events
abbrev pub ComesOf : {T : Type 0} → Result T PlayFault → (old new : Cluster) → (before after : List Entry) → List Event → Type 0
ComesOf (Ok done) old new before after events = Happens old new before after events
ComesOf (Err told) old new before after events = Stops old new before after events told
