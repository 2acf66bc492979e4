-- What a CNI call writes and leaves that goes well over rows with spare.
use Rattle.std.specs.Prelude.{◌≡◌, ◌≢◌, ◌↔◌, ℕ, List, [], Some, Ok}
use Rattle.std.specs.Io.KnownBytes.{append_known}
use Rattle.ipam_io.specs.Counts.{Rose}
use Rattle.ipam_records.specs.declared.call.Row.{Row as RowText}
use Rattle.ipam_records.specs.Datastore.{Datastore}
use Rattle.ipam_model.specs.declared.answer.Answer.TheVariants as answer
use Rattle.ipam_model.specs.declared.answer.Given.{Given}
use Rattle.ipam_model.specs.declared.request.AddRequest.{AddRequest}
use Rattle.ipam_model.specs.declared.request.Request.{Request}
use Rattle.ipam_model.specs.declared.request.Request.TheVariants.{Add, Collect}
use Rattle.ipam_model.specs.Alone.{alone_over}
use Rattle.ipam_model.specs.Opened.{OpensAs}
use Rattle.ipam_model.specs.Plain.{HasSpare, HasSpareFor, PlainResult, plain}
use Rattle.ipam_model.specs.SoundRequest.{IsSoundRequest}
use Rattle.ipam_laws.specs.AlonePlain.{AsksSame}
use Rattle.ipam_shared.specs.Kept.{opened}
use Rattle.ipam_shared.specs.Rows.{texts_loaded}
use Rattle.cni_types.specs.declared.calls.CniGc.{CniGc}
use Rattle.cni_types.specs.declared.calls.CniStatus.{CniStatus}
use Rattle.cni_types.specs.declared.calls.Look.{Look}
use Rattle.cni_types.specs.declared.calls.Look.TheVariants.{Gc, Status}
use Rattle.cni_types.specs.declared.version.Version.{Version}
use Rattle.cni_types.specs.Looking.{look_reading}
use Rattle.cni_types.specs.Reading.{Pair}
use Rattle.cni_asks.specs.declared.asks.Ask.TheVariants.{Begin}
use Rattle.cni_asks.specs.declared.replies.CniReply.{CniReply}
use Rattle.cni_asks.specs.Replying.{told}
use Rattle.cni_asks.specs.GcAsking.{collect_of, probe_of}
use Rattle.ipam_command.specs.declared.cni_end.CniEnd.{CniEnd}
use Rattle.ipam_command.specs.declared.cni_end.CniEnd.TheVariants.{Failed}
use Rattle.ipam_command.specs.declared.cni_end.CniFault.TheVariants.{Memory}
use Rattle.ipam_command.specs.Replies.{StatusAndText, begun_by}
use Rattle.ipam_command.specs.Alone.{SaysTryAgain}
use Rattle.ipam_command.specs.ByRecords.{IsByRecords}
use Rattle.ipam_command.specs.Spare.{LeavesSpared}
use Rattle.ipam_keeper.specs.Outside.{Outside}

-- ---- premises and replies

-- the environment and standard input are this call, and the keeper's rows open as this datastore
pub record Finds (env : List Pair) (old : Outside) (look : Look) (store : Datastore) : Type 0 where
  pub stdin : List ℕ
  pub input : old.left ≡ Some stdin
  pub is_look : look_reading env stdin ≡ Ok look
  pub loaded : List RowText
  pub rows : old.rows ≡ Some loaded
  pub opens : OpensAs (texts_loaded loaded) store

-- no count of faults rose, and the end is not want of memory
pub record GoesWell (ending : CniEnd) (old new : Outside) : Type 0 where
  pub source : ¬ (Rose old.read_faults new.read_faults)
  pub sink : ¬ (Rose old.write_faults new.write_faults)
  pub keeper : ¬ (Rose old.keeper_faults new.keeper_faults)
  pub memory : (version : Version) → ending ≢ Failed version Memory

-- the text was written, all of it, with this status
pub record IsReplySaid (reply : StatusAndText) (old new : Outside) (status : ℕ) : Type 0 where
  pub text : new.written ≡ append_known old.written reply.1
  pub has_status : status ≡ reply.0

-- ---- any call

-- The reply is written that the function of the records gives, and the rows are those that it leaves.
pub record IsSaidByRecords (asked : Request) (version : Version) (result : PlainResult) (old new : Outside) (status : ℕ) : Type 0 where
  pub reply : StatusAndText
  pub by_records : IsByRecords asked version result new.rows reply
  pub said : IsReplySaid reply old new status

-- Where it goes well and there is spare for the request of the call.
abbrev pub IsCallByRecords : List Pair → CniEnd → (old new : Outside) → (status : ℕ) → Type 0
IsCallByRecords env ending old new status =
    (look : Look) (asked : Request) (version : Version) (store : Datastore) (result : PlainResult)
    → Finds env old look store → begun_by look ≡ Begin asked version
    → HasSpareFor store asked → plain asked store.rows ≡ Some result → GoesWell ending old new
    → IsSaidByRecords asked version result old new status

-- ---- no reply asks to try again later

-- A reply was written that does not ask to make the call again later.
pub record IsSaidForGood (version : Version) (old new : Outside) (status : ℕ) : Type 0 where
  pub reply : CniReply
  pub said : IsReplySaid (told version reply) old new status
  pub not_later : ¬ (SaysTryAgain (Some reply))

-- Where a call that begins a request goes well over rows that open.
abbrev pub NeverSaysTryAgain : List Pair → CniEnd → (old new : Outside) → (status : ℕ) → Type 0
NeverSaysTryAgain env ending old new status =
    (look : Look) (asked : Request) (version : Version) (store : Datastore)
    → Finds env old look store → begun_by look ≡ Begin asked version → GoesWell ending old new
    → IsSaidForGood version old new status

-- ---- GC

-- GC that goes well, with spare, has the status 0 and writes nothing, and leaves exactly the owners that
-- are outside of its scope or whose handle is listed.
abbrev pub LeavesWhatIsSpared : List Pair → CniEnd → (old new : Outside) → (status : ℕ) → Type 0
LeavesWhatIsSpared env ending old new status =
    (call : CniGc) (store : Datastore)
    → Finds env old (Gc call) store → HasSpareFor store (Collect (collect_of call)) → GoesWell ending old new
    → IsReplySaid (0, []) old new status × LeavesSpared store call new.rows

-- ---- STATUS

-- STATUS that goes well has the status 0 exactly where the ADD that asks for the same, whatever its
-- handle, alone over the same rows and with spare, is answered Added.
abbrev pub TellsOfAdd : List Pair → CniEnd → (old new : Outside) → (status : ℕ) → Type 0
TellsOfAdd env ending old new status =
    (call : CniStatus) (store : Datastore) (request : AddRequest)
    → Finds env old (Status call) store → AsksSame (probe_of call) request
    → IsSoundRequest (Add request) → HasSpare store (Add request) → GoesWell ending old new
    → (status ≡ 0) ↔ ((given : List Given) × ((alone_over (opened store) (Add request)).0 ≡ answer.Added given))
