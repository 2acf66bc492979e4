-- What each command does, and the status that it ends with.
use Rattle.std.specs.Prelude.{◌≡◌, ◌≢◌, ℕ, List, Option, Some, None, IfSome, Result, codes}
use Rattle.std.specs.Io.KnownBytes.{append_known, IsAtEnd}
use Rattle.ipam_io.specs.Counts.{Rose}
use Rattle.ipam_io.specs.Streams.{AppendsPrefix}
use Rattle.ipam_records.specs.declared.call.Row.{Row as RowText}
use Rattle.ipam_records.specs.Datastore.{Datastore}
use Rattle.ipam_words.specs.Words.{AskedCommand, Audit, Call, Cni, Play, Apply, Get, Help, Routes, Release, Gen, Serve, Show, Version}
use Rattle.ipam_words.specs.declared.texts.TheConstants.{HELP, VERSION}
use Rattle.ipam_play.specs.declared.end.PlayEnd.{PlayEnd}
use Rattle.ipam_play.specs.declared.end.PlayEnd.TheVariants as play
use Rattle.ipam_command.specs.declared.gen_end.GenEnd.{GenEnd}
use Rattle.ipam_command.specs.Summary as gen
use Rattle.ipam_command.specs.Headline.{HasWrittenRight, HasWrittenSoFarRight, script_in}
use Rattle.ipam_command.specs.Generating.{HasCountedRight}
use Rattle.ipam_commands.specs.declared.status.Status.{Status}
use Rattle.ipam_commands.specs.Telling.{ReportsRows, Writes}
use Rattle.ipam_views.specs.Shown.{shown_text}
use Rattle.ipam_commands.specs.Texts.{routes_text}
use Rattle.ipam_show.specs.Rows.{rows_text}
use Rattle.ipam_commands.specs.declared.outcome.ChangeOutcome.{ChangeOutcome}
use Rattle.ipam_commands.specs.Changing.{ChangeEnds, ChangeWrites, release_line}
use Rattle.ipam_shared.specs.declared.kept.KeptFault.{KeptFault}
use Rattle.ipam_model.specs.declared.request.Request.TheVariants as request
use Rattle.ipam_addr.specs.Shape.{CidrValue}
use Rattle.cni_types.specs.Reading.{Pair}
use Rattle.ipam_commands.specs.Applied as apply
use Rattle.ipam_commands.specs.declared.status.Status.TheVariants as status_of
use Rattle.ipam_command.specs.declared.cni_end.CniEnd.{CniEnd}
use Rattle.ipam_command.specs.Calls as cni
use Rattle.ipam_call.specs.Ends.{IsStatus}
use Rattle.ipam_command.specs.Ends as cni_ends
use Rattle.ipam_command.specs.CniCalls.{IsCallByRecords, LeavesWhatIsSpared, NeverSaysTryAgain, TellsOfAdd}
use Rattle.ipam_keeper.specs.Outside.{LeavesKeeper, LeavesSource, Outside}
use Rattle.ipam_commands.specs.Statuses.{code_of_status}
use Rattle.ipam_command.specs.Statuses.{code_of_gen, code_of_play}

-- ---- a fixed text, which takes no memory

-- the text was written, with this status, or a front part of it where the sink failed
pub data SaysFixedText (text : List ℕ) (own : ℕ) (old new : Option (List ℕ)) (faults faults' : ℕ) : (status : ℕ) → Type 0 where
  Told : new ≡ append_known old text → faults' ≡ faults → SaysFixedText text own old new faults faults' own
  Cut : AppendsPrefix old new text → Rose faults faults' → SaysFixedText text own old new faults faults' 4

-- the text is written, and nothing is asked of the source and the keeper
pub record DoesSay (text : List ℕ) (own : ℕ) (old new : Outside) (status : ℕ) : Type 0 where
  pub said : SaysFixedText text own old.written new.written old.write_faults new.write_faults status
  pub source : LeavesSource old new
  pub keeper : LeavesKeeper old new

abbrev pub unknown_text : List ℕ
unknown_text = codes "unknown words\n"

-- the words name no command that is run here
abbrev pub IsUnknown : (old new : Outside) → (status : ℕ) → Type 0
IsUnknown old new status = DoesSay unknown_text 2 old new status

-- ---- `play`

-- the script that the source has was played to this end, what was written tells of entries that are a
-- right history, and each fault has its cause
pub record PlayEnds (old new : Outside) (ending : PlayEnd) : Type 0 where
  pub written : IfSome old.left (λ bytes. HasWrittenRight ending (script_in bytes) old.written new.written)
  pub so_far : ending ≡ play.ReadFault → HasWrittenSoFarRight old.left new.left old.written new.written
  pub at_end : ending ≡ play.Done → IsAtEnd new.left
  pub read_fault : ending ≡ play.ReadFault → Rose old.read_faults new.read_faults
  pub no_read_fault : ending ≢ play.ReadFault → ending ≢ play.WriteFault → new.read_faults ≡ old.read_faults
  pub write_fault : ending ≡ play.WriteFault → Rose old.write_faults new.write_faults
  pub no_write_fault : ending ≢ play.WriteFault → new.write_faults ≡ old.write_faults

pub record DoesPlay (old new : Outside) (status : ℕ) : Type 0 where
  pub ending : PlayEnd
  pub has_status : status ≡ code_of_play ending
  pub played : PlayEnds old new ending
  pub keeper : LeavesKeeper old new

-- ---- `gen N`

-- the numbers are those that are counted on the generator's course, which is a right history
pub record DoesGen (count : ℕ) (old new : Outside) (status : ℕ) : Type 0 where
  pub ending : GenEnd
  pub has_status : status ≡ code_of_gen ending
  pub written : HasCountedRight ending count old.written new.written
  pub faults : gen.CountsFaults ending old.write_faults new.write_faults
  pub source : LeavesSource old new
  pub keeper : LeavesKeeper old new

-- ---- `get`, `get KIND`, `show` and `routes NODE`

-- this text is written of the keeper's rows, which stay as they are
pub record DoesTell (text : List RowText → Datastore → List ℕ) (old new : Outside) (status : ℕ) : Type 0 where
  pub ending : Status
  pub has_status : status ≡ code_of_status ending
  pub tells : ReportsRows old.rows old.keeper_faults new.keeper_faults text
      (λ said own. Writes old.written new.written old.write_faults new.write_faults said own ending)
  pub source : LeavesSource old new
  pub same_rows : new.rows ≡ old.rows

-- ---- `release NODE CIDR`

-- the release runs by itself over the keeper's rows
pub record DoesRelease (node : List ℕ) (cidr : CidrValue) (old new : Outside) (status : ℕ) : Type 0 where
  pub came : Result ChangeOutcome KeptFault
  pub ending : Status
  pub has_status : status ≡ code_of_status ending
  pub ends : ChangeEnds (request.Release node cidr) came old.rows new.rows old.keeper_faults new.keeper_faults
  pub writes : ChangeWrites release_line (λ said own. Writes old.written new.written old.write_faults new.write_faults said own ending)
      (ending ≢ status_of.NoMemory) came
  pub source : LeavesSource old new

-- ---- `apply`

-- the source's document is applied over the keeper's rows, which stay where nothing of it is
pub record DoesApply (old new : Outside) (status : ℕ) : Type 0 where
  pub ending : Status
  pub has_status : status ≡ code_of_status ending
  pub ends : apply.ApplyEnds (LeavesKeeper old new) old new ending
  pub at_end : ending ≡ status_of.Done → IsAtEnd new.left

-- ---- no word, or `cni`

-- The call of this environment is made over the keeper's rows. Where it goes well its reply never asks to make the
-- call again later. Where it goes well and the rows have spare, what it writes and leaves is as the function of the
-- records says, what GC leaves is known owners, and STATUS tells of the ADD that asks for the same.
pub record DoesCni (same : Type 0) (env : List Pair) (old new : Outside) (status : ℕ) : Type 0 where
  pub ending : CniEnd
  pub went : cni.CniCallWent same env ending old new
  pub tells : cni_ends.WritesCniEnd ending old.written new.written old.write_faults new.write_faults status
  pub never_later : NeverSaysTryAgain env ending old new status
  pub by_records : IsCallByRecords env ending old new status
  pub gc : LeavesWhatIsSpared env ending old new status
  pub status_of_add : TellsOfAdd env ending old new status
  pub at_end : status ≡ 0 → IsAtEnd new.left
  pub is_status : IsStatus status

-- ---- all

-- What is done, by what the words ask. An audit, the daemon and its client are run by others; here their
-- words name no command. `same`: the keeper is the same.
abbrev pub Does : (same : Type 0) → (env : List Pair) → Option AskedCommand → (old new : Outside) → (status : ℕ) → Type 0
Does same env (Some Cni) old new status = DoesCni same env old new status
Does same env (Some Play) old new status = DoesPlay old new status
Does same env (Some (Gen count)) old new status = DoesGen count old new status
Does same env (Some (Get kind)) old new status = DoesTell (λ rows store. rows_text kind rows) old new status
Does same env (Some (Show view)) old new status = DoesTell (λ rows store. shown_text view store) old new status
Does same env (Some (Routes node)) old new status = DoesTell (λ rows store. routes_text node store) old new status
Does same env (Some (Release node cidr)) old new status = DoesRelease node cidr old new status
Does same env (Some Apply) old new status = DoesApply old new status
Does same env (Some Help) old new status = DoesSay HELP.now 0 old new status
Does same env (Some Version) old new status = DoesSay VERSION.now 0 old new status
Does same env (Some (Audit workers)) old new status = IsUnknown old new status
Does same env (Some (Serve address workers)) old new status = IsUnknown old new status
Does same env (Some (Call address)) old new status = IsUnknown old new status
Does same env None old new status = IsUnknown old new status
