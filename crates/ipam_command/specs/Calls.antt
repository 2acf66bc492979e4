-- How a call goes: what is read, what becomes of the rows, and which counts of faults rise.
use Rattle.std.specs.Prelude.{◌≡◌, ◌≢◌, ℕ, ◌+◌, ◌≤◌, ◌⊎◌, List, length, Option, Some, IfSome, Result, Ok, Err}
use Rattle.std.specs.Io.KnownBytes.{IsAtEnd, prepend_known}
use Rattle.ipam_io.specs.Counts.{Rose}
use Rattle.ipam_keeper.specs.Keeping.{IsTold}
use Rattle.ipam_keeper.specs.Outside.{Outside}
use Rattle.ipam_records.specs.declared.call.Row.{Row as RowText}
use Rattle.ipam_records.specs.Datastore.{Datastore}
use Rattle.ipam_model.specs.declared.answer.Answer.{Answer}
use Rattle.ipam_model.specs.declared.answer.Answer.TheVariants.{Fault}
use Rattle.ipam_model.specs.declared.entry.Entry.{Entry}
use Rattle.ipam_model.specs.declared.request.Request.{Request}
use Rattle.ipam_model.specs.Alone.{IsAlone, alone_over}
use Rattle.ipam_model.specs.History.{Lawful, store_at}
use Rattle.ipam_model.specs.Opened.{OpensAs}
use Rattle.ipam_shared.specs.Kept.{opened}
use Rattle.ipam_shared.specs.declared.kept.KeptFault.{KeptFault}
use Rattle.ipam_shared.specs.declared.kept.KeptFault.TheVariants as fault
use Rattle.ipam_shared.specs.Rows.{AreTextsOf, texts_loaded}
use Rattle.ipam_shared.specs.Courses.{IsAnswerCourse, IsFaultCourse}
use Rattle.ipam_shared.specs.Solo.{IsStoppedAlone}
use Rattle.cni_types.specs.declared.calls.Look.{Look}
use Rattle.cni_types.specs.declared.code.Code.TheVariants as code
use Rattle.cni_types.specs.declared.error.CniError.{CniError}
use Rattle.cni_types.specs.declared.version.Version.{Version}
use Rattle.cni_types.specs.declared.version.Version.TheVariants.{V1_0_0}
use Rattle.cni_types.specs.Looking.{look_reading}
use Rattle.cni_types.specs.Reading.{Pair}
use Rattle.cni_types.specs.Texts.{error_text}
use Rattle.cni_types.specs.declared.limits.TheConstants.{MOST_INPUT_BYTES}
use Rattle.cni_asks.specs.declared.asks.Ask.TheVariants.{Begin}
use Rattle.cni_asks.specs.declared.replies.CniReply.{CniReply}
use Rattle.cni_asks.specs.Replying.{reply_status, reply_text, told}
use Rattle.ipam_command.specs.declared.cni_end.CniEnd.{CniEnd}
use Rattle.ipam_command.specs.declared.cni_end.CniEnd.TheVariants.{Told, Failed}
use Rattle.ipam_command.specs.declared.cni_end.CniFault.TheVariants.{Read, Undecodable, Keeper, Memory}
use Rattle.ipam_call.specs.Versions.{version_for}
use Rattle.ipam_command.specs.Ends.{fault_error}
use Rattle.ipam_command.specs.Replies.{ComesTo, RequestComesTo, bad_rows, begun_by, reply_to}

-- ---- an end by itself

-- the end with this reply, or without memory for it
abbrev pub end_of : {E : Type 0} → Version → Result (ℕ × List ℕ) E → CniEnd
end_of version (Ok reply) = Told reply.0 reply.1
end_of version (Err none) = Failed version Memory

-- a fact where the end is want of memory
abbrev pub OnWant : CniEnd → Type 0 → Type 0
OnWant (Failed version Memory) p = p
OnWant _ p = Unit {0}

-- the error is written, or there is no memory for its text
abbrev pub TellsError : CniError → CniEnd → Type 0
TellsError error end = (end ≡ Told 1 (error_text error)) ⊎ (end ≡ Failed error.version Memory)

-- how a refused call ends; the error for standard input that is no configuration takes no memory
pub data RefusalEnds (error : CniError) : CniEnd → Type 0 where
  NoConfiguration : error.code ≡ code.Undecodable → RefusalEnds error (Failed error.version Undecodable)
  WithDetails : (end : CniEnd) → error.code ≢ code.Undecodable → TellsError error end → RefusalEnds error end

-- what is written where the rows were not opened
abbrev pub IsNotOpenedEnd : Version → KeptFault → CniEnd → Type 0
IsNotOpenedEnd version fault.Keeper end = end ≡ Failed version Keeper
IsNotOpenedEnd version fault.Memory end = end ≡ Failed version Memory
IsNotOpenedEnd version (fault.Refused number about) end = TellsError (bad_rows version number about) end

-- the answer is written, or there is no memory for its text; a keeper that failed has its own error
pub data AnswerEnds (asked : Request) (found : Answer) (version : Version) : CniEnd → Type 0 where
  KeeperFailed : found ≡ Fault → AnswerEnds asked found version (Failed version Keeper)
  AnswerTold : (reply : CniReply) → found ≢ Fault → reply_to asked found ≡ Some reply
      → AnswerEnds asked found version (Told (reply_status reply) (reply_text version reply))
  NoMemory : found ≢ Fault → AnswerEnds asked found version (Failed version Memory)

-- ---- a request over opened rows

-- the rows are those of a course of the request that ends in a stop or in its answer
pub record IsStopOrAnswerCourse (store : Datastore) (asked : Request) (new : Option (List RowText)) : Type 0 where
  pub entries : List Entry
  pub lawful : Lawful (opened store) entries
  pub alone : IsStoppedAlone asked entries ⊎ IsAlone asked entries
  pub rows : IfSome new (λ after. AreTextsOf after (store_at (opened store) entries))

-- the answer is that of the request by itself, by a lawful history of its own, and the rows are those of the
-- datastore that it leaves
pub record IsAloneReply (store : Datastore) (asked : Request) (version : Version) (new : Option (List RowText)) (reply : ℕ × List ℕ) : Type 0 where
  pub is_told : CniReply
  pub answer : reply_to asked (alone_over (opened store) asked).0 ≡ Some is_told
  pub text : told version is_told ≡ reply
  pub rows : IfSome new (λ after. AreTextsOf after (alone_over (opened store) asked).1)
  pub course : IsAnswerCourse (opened store) asked (alone_over (opened store) asked).0 (alone_over (opened store) asked).1

-- How a request ends that runs by itself over the rows of a datastore.
abbrev pub AloneEnds : (store : Datastore) → Request → Version → CniEnd → (new : Option (List RowText)) → (faults faults' : ℕ) → Type 0
AloneEnds store asked version (Told status text) new faults faults' =
    (faults' ≡ faults) × IsAloneReply store asked version new (status, text)
AloneEnds store asked version (Failed in_version Read) new faults faults' = ⊥
AloneEnds store asked version (Failed in_version Undecodable) new faults faults' = ⊥
AloneEnds store asked version (Failed in_version Keeper) new faults faults' =
    (in_version ≡ version) × Rose faults faults' × IsFaultCourse (opened store) asked new
AloneEnds store asked version (Failed in_version Memory) new faults faults' =
    (in_version ≡ version) × (faults' ≡ faults) × IsStopOrAnswerCourse store asked new

-- ---- a request over a keeper's rows

-- the rows open as the datastore
pub record Opens (old : Option (List RowText)) (store : Datastore) : Type 0 where
  pub loaded : List RowText
  pub is_told : IsTold old loaded
  pub opens : OpensAs (texts_loaded loaded) store

-- the rows stayed, or they opened and it is so of what they opened as
abbrev pub StayOr : (old new : Option (List RowText)) → (Datastore → Type 0) → Type 0
StayOr old new p = (new ≡ old) ⊎ ((store : Datastore) × Opens old store × p store)

-- How a request ends over a keeper's rows.
abbrev pub RequestEnds : Request → Version → CniEnd → (old new : Option (List RowText)) → (faults faults' : ℕ) → Type 0
RequestEnds asked version (Told status text) old new faults faults' =
    (faults' ≡ faults) × RequestComesTo asked version old new (status, text)
RequestEnds asked version (Failed in_version Read) old new faults faults' = ⊥
RequestEnds asked version (Failed in_version Undecodable) old new faults faults' = ⊥
RequestEnds asked version (Failed in_version Keeper) old new faults faults' =
    (in_version ≡ version) × Rose faults faults' × StayOr old new (λ store. IsFaultCourse (opened store) asked new)
RequestEnds asked version (Failed in_version Memory) old new faults faults' =
    (in_version ≡ version) × (faults' ≡ faults) × StayOr old new (λ store. IsStopOrAnswerCourse store asked new)

-- ---- a call

-- the call begins this request, which is answered in this version
pub record Begins (env : List Pair) (stdin : List ℕ) (asked : Request) (version : Version) : Type 0 where
  pub look : Look
  pub is_look : look_reading env stdin ≡ Ok look
  pub begins : begun_by look ≡ Begin asked version

-- the error of a fault is in the version of standard input
abbrev pub IsInVersion : CniEnd → (stdin : List ℕ) → Type 0
IsInVersion (Told status text) stdin = Unit {0}
IsInVersion (Failed version fault) stdin = version ≡ version_for stdin

-- a request was begun, and there was no memory to go on or to write its answer
pub record IsCutShort (env : List Pair) (stdin : List ℕ) (version : Version) (old new : Option (List RowText)) : Type 0 where
  pub asked : Request
  pub begins : Begins env stdin asked version
  pub rows : StayOr old new (λ store. IsStopOrAnswerCourse store asked new)

-- How a call ends whose configuration was read, where that could be done.
abbrev pub CallEnds : List Pair → (stdin : List ℕ) → CniEnd → (old new : Option (List RowText)) → (faults faults' : ℕ) → Type 0
CallEnds env stdin (Told status text) old new faults faults' =
    (faults' ≡ faults) × ComesTo env stdin old new (status, text)
CallEnds env stdin (Failed version Read) old new faults faults' = ⊥
CallEnds env stdin (Failed version Undecodable) old new faults faults' =
    (faults' ≡ faults) × (look_reading env stdin ≡ Err (fault_error version Undecodable)) × (new ≡ old)
CallEnds env stdin (Failed version Keeper) old new faults faults' =
    Rose faults faults' × (asked : Request) × Begins env stdin asked version
    × StayOr old new (λ store. IsFaultCourse (opened store) asked new)
CallEnds env stdin (Failed version Memory) old new faults faults' =
    (faults' ≡ faults) × ((new ≡ old) ⊎ IsCutShort env stdin version old new)

-- ---- a call with its standard input

-- these bytes were read: all that was left, or one more than standard input may have
pub record IsInput (stdin : List ℕ) (old new : Option (List ℕ)) : Type 0 where
  pub bytes : old ≡ prepend_known stdin new
  pub bound : length stdin ≤ MOST_INPUT_BYTES + 1
  pub whole : length stdin ≤ MOST_INPUT_BYTES → IsAtEnd new

-- A read of the source failed, and nothing was asked of the keeper. `same`: the keeper is the same.
pub record IsReadFault (same : Type 0) (version : Version) (old new : Outside) : Type 0 where
  pub in_version : version ≡ V1_0_0
  pub input_faults : Rose old.read_faults new.read_faults
  pub keeper_faults : new.keeper_faults ≡ old.keeper_faults
  pub rows : new.rows ≡ old.rows
  pub keeper : same

-- There was no memory to read standard input or the configuration in it, and nothing was asked of the keeper.
pub record IsUnread (same : Type 0) (version : Version) (old new : Outside) : Type 0 where
  pub in_version : version ≡ V1_0_0
  pub input_faults : new.read_faults ≡ old.read_faults
  pub keeper_faults : new.keeper_faults ≡ old.keeper_faults
  pub rows : new.rows ≡ old.rows
  pub keeper : same

-- Standard input was read, and then the call was made with it. The error of a fault is in its version.
pub record IsMadeWithInput (env : List Pair) (end : CniEnd) (old new : Outside) : Type 0 where
  pub stdin : List ℕ
  pub input : IsInput stdin old.left new.left
  pub input_faults : new.read_faults ≡ old.read_faults
  pub in_version : IsInVersion end stdin
  pub ends : CallEnds env stdin end old.rows new.rows old.keeper_faults new.keeper_faults

-- How a call with this environment went that ended so. `same` says that the keeper is the same: an error
-- is in the version of the configuration once that was read, and until then nothing is asked of the keeper.
abbrev pub CniCallWent : (same : Type 0) → List Pair → CniEnd → (old new : Outside) → Type 0
CniCallWent same env (Told status text) old new = IsMadeWithInput env (Told status text) old new
CniCallWent same env (Failed version Read) old new = IsReadFault same version old new
CniCallWent same env (Failed version Undecodable) old new = IsMadeWithInput env (Failed version Undecodable) old new
CniCallWent same env (Failed version Keeper) old new = IsMadeWithInput env (Failed version Keeper) old new
CniCallWent same env (Failed version Memory) old new = IsUnread same version old new ⊎ IsMadeWithInput env (Failed version Memory) old new

-- ---- parts of a call

-- there was no memory to read the configuration in standard input
pub record IsUnreadable (same : Type 0) (end : CniEnd) (old new : Option (List RowText)) (faults faults' : ℕ) : Type 0 where
  pub is_end : end ≡ Failed V1_0_0 Memory
  pub keeper_faults : faults' ≡ faults
  pub rows : new ≡ old
  pub keeper : same

-- How a call ends with this standard input.
abbrev pub InputEnds : (same : Type 0) → List Pair → (stdin : List ℕ) → CniEnd → (old new : Option (List RowText)) → (faults faults' : ℕ) → Type 0
InputEnds same env stdin end old new faults faults' =
    IsUnreadable same end old new faults faults'
    ⊎ (IsInVersion end stdin × CallEnds env stdin end old new faults faults')
