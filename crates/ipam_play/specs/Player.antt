-- Where a player stands, and what a line does to it.
use Rattle.std.specs.Prelude.{◌≡◌, ℕ, List, [], ◌∷◌, ◌++◌, ◌⊎◌, ⊤, Option, Some, None, Result, Ok, Err}
use Rattle.ipam_records.specs.Datastore.{Datastore}
use Rattle.ipam_model.specs.declared.entry.Entry.{Entry}
use Rattle.ipam_model.specs.Cluster as model
use Rattle.ipam_model.specs.Course.{Event, EventRefusal, course, entries_of}
use Rattle.ipam_model.specs.History.{cluster_at}
use Rattle.ipam_model.specs.Opened.{IsRefusedBy, OpensAs, Texts}
use Rattle.ipam_cluster.specs.Cluster.{StandsFor}
use Rattle.ipam_play.specs.declared.fault.PlayFault.{PlayFault}
use Rattle.ipam_play.specs.declared.fault.PlayFault.TheVariants as fault
use Rattle.ipam_play.specs.declared.gathering.Gathering.{Gathering}
use Rattle.ipam_play.specs.declared.cluster.OpenCluster.{OpenCluster}
use Rattle.ipam_play.specs.declared.player.Player.{Player}
use Rattle.ipam_play.specs.declared.player.Stage.{Stage}
use Rattle.ipam_play.specs.declared.player.Stage.TheVariants as stage
use Rattle.ipam_play.specs.Events.{fault_of, onto}
use Rattle.ipam_play.specs.Gathering.{Gathers}
use Rattle.ipam_play.specs.Played.{AreTextsOfBase, base_of}
use Rattle.ipam_play.specs.Times.{StandsTimed}
use Rattle.ipam_play.specs.Script.{Gathered, LinePlace, OfBase, Again, Happens}

-- the entries that were not forgotten
abbrev pub journal_of : Player → List Entry
journal_of player = player.journal.items

-- the cluster behind these entries, the oldest first
abbrev pub cluster_of : Datastore → List Entry → model.ClusterState
cluster_of store entries = cluster_at (base_of store) (onto entries [])

-- the base is opened as this datastore
pub record IsBaseOpened (base : Gathered) (store : Datastore) : Type 0 where
  pub texts : Texts
  pub are_texts : AreTextsOfBase texts base
  pub opens : OpensAs texts store

-- the base breaks this rule, first at this key
pub record IsBroken (base : Gathered) (rule : ℕ) (about : List ℕ) : Type 0 where
  pub texts : Texts
  pub are_texts : AreTextsOfBase texts base
  pub refused : IsRefusedBy texts rule about

-- ---- where a player stands

-- what is opened stands for some history
abbrev pub IsStandingStage : Stage → Type 0
IsStandingStage (stage.Gathering gathering) = ⊤
IsStandingStage (stage.Playing opened) = StandsTimed opened

abbrev pub IsStanding : Player → Type 0
IsStanding player = IsStandingStage player.stage

-- this base is gathered, and nothing happened yet
pub record IsGathering (player : Player) (base : Gathered) : Type 0 where
  pub gathering : Gathering
  pub is : player.stage ≡ stage.Gathering gathering
  pub gathers : Gathers gathering base
  pub nothing : journal_of player ≡ []

-- the base is opened as this datastore, and after these entries those of the journal happened
pub record IsPlaying (player : Player) (base : Gathered) (store : Datastore) (past : List Entry) : Type 0 where
  pub open_cluster : OpenCluster
  pub is : player.stage ≡ stage.Playing open_cluster
  pub opened : IsBaseOpened base store
  pub stands : StandsFor open_cluster.cluster (base_of store) (onto (past ++ journal_of player) [])

-- ---- lines after the base

-- the event is refused by the cluster, and told so
pub record IsRefusal (cluster : model.ClusterState) (event : Event) (told : PlayFault) : Type 0 where
  pub refusal : EventRefusal
  pub is_told : told ≡ fault_of refusal
  pub refuses : entries_of cluster event ≡ Err refusal

-- there was no memory for the event, which is not refused
pub record IsWanting (cluster : model.ClusterState) (event : Event) (told : PlayFault) : Type 0 where
  pub is_told : told ≡ fault.Memory
  pub would_make : List Entry
  pub makes : entries_of cluster event ≡ Ok would_make

-- all of the events happened
pub record AllHappened (old new : Player) (store : Datastore) (past : List Entry) (events : List Event) : Type 0 where
  pub made : List Entry
  pub added : journal_of new ≡ journal_of old ++ made
  pub made_by : course (cluster_of store (past ++ journal_of old)) events ≡ record { entries = made; refused = None }

-- Those before one happened that did not: it is refused, or it is not and there was no memory for it.
pub record SomeHappened (old new : Player) (store : Datastore) (past : List Entry) (events : List Event) (told : PlayFault) : Type 0 where
  pub first : List Event
  pub next : Event
  pub rest : List Event
  pub is_first : events ≡ first ++ next ∷ rest
  pub made : List Entry
  pub added : journal_of new ≡ journal_of old ++ made
  pub made_by : course (cluster_of store (past ++ journal_of old)) first ≡ record { entries = made; refused = None }
  pub cause : IsWanting (cluster_of store (past ++ journal_of new)) next told ⊎ IsRefusal (cluster_of store (past ++ journal_of new)) next told

abbrev pub HasHappened : {T : Type 0} → Result T PlayFault → (old new : Player) → Datastore → (past : List Entry) → List Event → Type 0
HasHappened (Ok done) old new store past events = AllHappened old new store past events
HasHappened (Err told) old new store past events = SomeHappened old new store past events told

-- a line of the base comes too late
pub record ComesTooLate {T : Type 0} (result : Result T PlayFault) (old new : Player) : Type 0 where
  pub is_told : result ≡ Err fault.Base
  pub same_journal : journal_of new ≡ journal_of old

abbrev pub IsPlayedLine : {T : Type 0} → Result T PlayFault → (old new : Player) → Datastore → (past : List Entry) → Option (List Event) → Type 0
IsPlayedLine result old new store past None = ComesTooLate result old new
IsPlayedLine result old new store past (Some events) = HasHappened result old new store past events

-- ---- lines while the base is gathered

-- a cluster over the base that was opened, in which all of the events happened
pub record IsBegunWith (open_cluster : OpenCluster) (before after : List Entry) (base : Gathered) (events : List Event) : Type 0 where
  pub store : Datastore
  pub opened : IsBaseOpened base store
  pub made : List Entry
  pub added : after ≡ before ++ made
  pub stands : StandsFor open_cluster.cluster (base_of store) (onto made [])
  pub made_by : course (cluster_of store []) events ≡ record { entries = made; refused = None }

-- the player plays over the base that was opened, and all of the events happened
pub record IsBegun (new : Player) (base : Gathered) (events : List Event) : Type 0 where
  pub store : Datastore
  pub playing : IsPlaying new base store []
  pub made_by : course (cluster_of store []) events ≡ record { entries = journal_of new; refused = None }

-- the base was opened, and the first event is refused
pub record IsRefusedFirst (base : Gathered) (events : List Event) (told : PlayFault) : Type 0 where
  pub store : Datastore
  pub opened : IsBaseOpened base store
  pub next : Event
  pub rest : List Event
  pub is_first : events ≡ next ∷ rest
  pub refusal : IsRefusal (cluster_of store []) next told

-- the base was opened, and there was no memory for the first event, which is not refused
pub record IsWantingFirst (store : Datastore) (events : List Event) (told : PlayFault) : Type 0 where
  pub next : Event
  pub rest : List Event
  pub is_first : events ≡ next ∷ rest
  pub wanting : IsWanting (cluster_of store []) next told

-- why the first line after the base did not happen, over what was opened
abbrev pub IsCauseOnceOpened : Gathered → Datastore → List Event → PlayFault → Type 0
IsCauseOnceOpened base store events told = IsWantingFirst store events told ⊎ IsRefusedFirst base events told

-- the base was not opened
pub record IsNotOpened (base : Gathered) (told : PlayFault) : Type 0 where
  pub rule : ℕ
  pub about : List ℕ
  pub is_told : told ≡ fault.Open rule about
  pub broken : IsBroken base rule about

-- why a line that opens the base did not happen
abbrev pub IsCauseAtFirst : Gathered → List Event → PlayFault → Type 0
IsCauseAtFirst base events told = (told ≡ fault.Memory) ⊎ (IsNotOpened base told ⊎ IsRefusedFirst base events told)

abbrev pub IsGatheredLine : {T : Type 0} → Result T PlayFault → (new : Player) → (base : Gathered) → LinePlace → Type 0
IsGatheredLine (Ok done) new base (OfBase longer) = IsGathering new longer
IsGatheredLine (Err told) new base (OfBase longer) = IsGathering new base × (told ≡ fault.Memory)
IsGatheredLine (Ok done) new base Again = ⊥
IsGatheredLine (Err told) new base Again = IsGathering new base × (told ≡ fault.Base)
IsGatheredLine (Ok done) new base (Happens events) = IsBegun new base events
IsGatheredLine (Err told) new base (Happens events) = IsGathering new base × IsCauseAtFirst base events told

-- ---- the end of a script

-- the base was opened, or it was before
abbrev pub IsFinished : {T : Type 0} → Result T PlayFault → (new : Player) → Gathered → Type 0
IsFinished (Ok done) new base = (store : Datastore) × IsPlaying new base store []
IsFinished (Err told) new base = IsGathering new base × ((told ≡ fault.Memory) ⊎ IsNotOpened base told)
