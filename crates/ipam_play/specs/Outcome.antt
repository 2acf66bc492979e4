-- What is still to come of a script.
use Rattle.std.specs.Prelude.{◌≡◌, ℕ, List, [], ◌++◌, ◌⊎◌, Ok}
use Rattle.ipam_records.specs.Datastore.{Datastore}
use Rattle.ipam_model.specs.declared.entry.Entry.{Entry}
use Rattle.ipam_model.specs.Cluster as model
use Rattle.ipam_model.specs.Course.{Event, course, entries_of}
use Rattle.ipam_model.specs.History.{start}
use Rattle.ipam_play.specs.declared.player.Player.{Player}
use Rattle.ipam_play.specs.Played.{Ending, OpensBase, base_of, ending_of, events_in}
use Rattle.ipam_play.specs.Player.{IsGathering, IsBaseOpened, IsPlaying, cluster_of, journal_of}
use Rattle.ipam_play.specs.Readings.{LineReading}
use Rattle.ipam_play.specs.Script.{Gathered, Script, behind_step, script_from}

-- entries, and how it ends
pub record Outcome : Type 0 where
  pub entries : List Entry
  pub ending : Ending

-- what the script makes of a cluster
abbrev pub outcome : model.ClusterState → Script → Outcome
outcome cluster script =
    let happened = course cluster (events_in script.steps) in
    record { entries = happened.entries; ending = ending_of script happened.refused }

-- the outcome after other entries
abbrev pub behind : List Entry → Outcome → Outcome
behind past coming = record { entries = past ++ coming.entries; ending = coming.ending }

-- the events of a line, and then the others
abbrev pub line_then : (number : ℕ) → List Event → Script → Script
line_then number events rest = behind_step (record { number = number; events = events }) rest

-- The base of the script was opened as this datastore, and after these entries the rest is to come.
pub record Follows (script : Script) (store : Datastore) (past : List Entry) (rest : Script) : Type 0 where
  pub opens_base : OpensBase script
  pub opened : IsBaseOpened script.base store
  pub comes : outcome (start (base_of store)) script ≡ behind past (outcome (cluster_of store past) rest)

-- ---- a player of the script, whose journal was taken

-- its base is gathered, and the lines from this number on are to come
pub record IsGatheringOn (script : Script) (player : Player) (number : ℕ) (more : List LineReading) : Type 0 where
  pub base : Gathered
  pub gathering : IsGathering player base
  pub is_script : script ≡ script_from number base more

-- after these entries the rest is to come
pub record IsPlayingOn (script : Script) (player : Player) (past : List Entry) (rest : Script) : Type 0 where
  pub store : Datastore
  pub playing : IsPlaying player script.base store past
  pub none_kept : journal_of player ≡ []
  pub follows : Follows script store past rest

-- the base is whole, and nothing happened
pub record IsUnopened (script : Script) (player : Player) (past : List Entry) (rest : Script) : Type 0 where
  pub gathering : IsGathering player script.base
  pub nothing : past ≡ []
  pub is_whole : rest ≡ script

-- the rest is to come, whether or not the base was opened
abbrev pub IsToCome : Script → Player → (past : List Entry) → (rest : Script) → Type 0
IsToCome script player past rest = IsPlayingOn script player past rest ⊎ IsUnopened script player past rest

-- the event is not refused, wherever the player stands after its base was opened
abbrev pub IsNotRefused : Player → Event → Type 0
IsNotRefused player event = (base : Gathered) (store : Datastore) (past : List Entry) → IsPlaying player base store past
    → (made : List Entry) × (entries_of (cluster_of store (past ++ journal_of player)) event ≡ Ok made)
