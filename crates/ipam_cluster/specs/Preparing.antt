-- What is prepared for a cluster.
use Rattle.std.specs.Prelude.{◌≡◌, ℕ, ◌<◌, ◌≤◌, ◌^◌, Option, Some, None}
use Rattle.std.specs.Option.{ForSome}
use Rattle.ipam_records.specs.declared.call.Call.{Call}
use Rattle.ipam_records.specs.declared.call.Write.{Write}
use Rattle.ipam_records.specs.declared.call.Write.TheVariants.{Put}
use Rattle.ipam_records.specs.declared.record.Record.{Record}
use Rattle.ipam_records.specs.Datastore.{Datastore, reply_of, write_granted}
use Rattle.ipam_records.specs.Said.{Said}
use Rattle.ipam_records.specs.Word.{next_call, after_reply}
use Rattle.ipam_model.specs.declared.limits.TheConstants.{SLOTS}
use Rattle.ipam_model.specs.Cluster.{record_written}
use Rattle.ipam_model.specs.Named.{name_of, told_of}
use Rattle.ipam_store.specs.Granted.{IsSoundWrite}
use Rattle.ipam_cluster.specs.declared.running.Running.{Running}
use Rattle.ipam_cluster.specs.declared.running.RunningTurned.{RunningTurned}
use Rattle.ipam_cluster.specs.Running.{running_rest, running_leaves, FitsRunning}
use Rattle.ipam_cluster.specs.Cluster.{slot_of_cluster}
use Rattle.ipam_cluster.specs.declared.cluster.Cluster.{Cluster}
use Rattle.ipam_cluster.specs.declared.turns.Prepared.{Prepared}

-- the record that is put, where one is
abbrev pub record_put : Option Write → Option Record
record_put (Some (Put revision new)) = Some new
record_put _ = None

-- what is written of a call, where the datastore grants it
abbrev pub write_asked : Option Call → Datastore → Option Write
write_asked None store = None
write_asked (Some call) store = write_granted call (reply_of store call)

-- what the next call of what runs writes
abbrev pub write_next : Option Running → Datastore → Option Write
write_next None store = None
write_next (Some running) store = write_asked (next_call (running_rest running)) store

-- it tells of this call, which was answered so
pub record TellsOf (prepared : Prepared) (call : Call) (said : Said) : Type 0 where
  pub name : prepared.name ≡ name_of call
  pub reply : prepared.reply ≡ told_of said
  pub written : prepared.written ≡ record_written call said

-- the reply leads what runs there
pub record Leads (running : Running) (turned : RunningTurned) (moment : ℕ) (said : Said) : Type 0 where
  pub fits : FitsRunning running turned
  pub leaves : running_leaves running turned ≡ after_reply (running_rest running) moment said

-- It is its slot's next call, with what the datastore answers and where that leads; and the datastore
-- can take its write without more memory.
pub record IsPrepared (cluster : Cluster) (prepared : Prepared) : Type 0 where
  pub small : prepared.slot < SLOTS
  pub write : prepared.write ≡ write_next (slot_of_cluster cluster prepared.slot) cluster.store.store
  pub few : cluster.entries < 2 ^ 62
  pub running : Running
  pub runs : slot_of_cluster cluster prepared.slot ≡ Some running
  pub call : Call
  pub asks : next_call (running_rest running) ≡ Some call
  pub tells : TellsOf prepared call (reply_of cluster.store.store call)
  pub leads : Leads running prepared.turned cluster.entries (reply_of cluster.store.store call)
  pub sound : ForSome prepared.write IsSoundWrite
  pub spare : 1 ≤ cluster.store.spare
