-- Each call has the datastore's own reply.
use Rattle.std.specs.Prelude.{◌≡◌, ℕ, List, ◌∷◌, Some, None}
use Rattle.ipam_records.specs.declared.call.Call.{Call}
use Rattle.ipam_records.specs.Datastore.{Datastore, reply_of, write_granted}
use Rattle.ipam_records.specs.Hearing.{MayHear}
use Rattle.ipam_records.specs.Sound.{IsDatastore}
use Rattle.ipam_records.specs.Word.{next_call}
use Rattle.ipam_model.specs.declared.entry.Called.{Called}
use Rattle.ipam_model.specs.declared.entry.Entry.{Entry}
use Rattle.ipam_model.specs.declared.entry.Entry.TheVariants as entry
use Rattle.ipam_model.specs.declared.entry.Fate.{Fate}
use Rattle.ipam_model.specs.declared.entry.Fate.TheVariants.{Well, Before, After}
use Rattle.ipam_model.specs.declared.entry.Told.TheVariants as told
use Rattle.ipam_model.specs.Cluster.{RunningRequest, record_written, store_with}
use Rattle.ipam_model.specs.CountLaw.{IsCovered}
use Rattle.ipam_model.specs.Named.{name_of, told_of}
use Rattle.ipam_model.specs.History.{Base, Lawful, cluster_at, store_at}

-- the reply and the written record are those of the datastore, and what it granted is done
pub record IsDoneBy (store later : Datastore) (next_call : Call) (c : Called) : Type 0 where
  pub is_reply : c.reply ≡ told_of (reply_of store next_call)
  pub is_written : c.written ≡ record_written next_call (reply_of store next_call)
  pub is_store : later ≡ store_with (write_granted next_call (reply_of store next_call)) store

-- a call that failed before was not answered, and wrote nothing
pub record IsNotDone (store later : Datastore) (c : Called) : Type 0 where
  pub no_reply : c.reply ≡ told.Nothing
  pub nothing_written : c.written ≡ None
  pub is_store : later ≡ store

abbrev pub IsAnsweredBy : Datastore → Datastore → Call → Called → Fate → Type 0
IsAnsweredBy store later next_call c Well = IsDoneBy store later next_call c
IsAnsweredBy store later next_call c After = IsDoneBy store later next_call c
IsAnsweredBy store later next_call c Before = IsNotDone store later c

abbrev pub RepliesLaw : Type 0
RepliesLaw =
    (base : Base) (history : List Entry) (c : Called) → Lawful base (entry.Called c ∷ history)
    → (next_call : Call) × (c.call ≡ name_of next_call)
    × IsAnsweredBy (store_at base history) (store_at base (entry.Called c ∷ history)) next_call c c.fate

-- What runs may hear the datastore's reply to its call: some sound datastore answers so, and a read of
-- the handle that there is a credit for finds the credit covered.
abbrev pub MayHearLaw : Type 0
MayHearLaw =
    (base : Base) (history : List Entry) (slot : ℕ) (running : RunningRequest) (call : Call)
    → IsDatastore base.store → IsCovered base.store → Lawful base history
    → (cluster_at base history).slots slot ≡ Some running → next_call running.word ≡ Some call
    → MayHear running.word (reply_of (store_at base history) call)
