-- The rules of a command, each in words of its own.
use Rattle.std.specs.Prelude.{◌≡◌, ℕ, ◌++◌, ◌∷◌, ◌⊎◌, List, Bool, true, false, Option, Some, None, Ok, Err}
use Rattle.std.specs.Io.KnownBytes.{append_known}
use Rattle.ipam_io.specs.Counts.{Rose}
use Rattle.ipam_addr.specs.Shape.{CidrValue}
use Rattle.ipam_records.specs.declared.call.Row.{Row as RowText}
use Rattle.ipam_records.specs.Datastore.{Datastore}
use Rattle.ipam_model.specs.declared.request.Request.TheVariants as request
use Rattle.ipam_shared.specs.Broken.{broken_line}
use Rattle.ipam_words.specs.Words.{AskedCommand, Audit, Call, Cni, Play, Apply, Get, Help, Routes, Release, Gen, Serve, Show, Version}
use Rattle.ipam_words.specs.declared.texts.TheConstants.{HELP, VERSION}
use Rattle.ipam_play.specs.Played.{Ending, Whole, LineRefused, NotOpened}
use Rattle.ipam_play.specs.Writing.{WritesAll}
use Rattle.ipam_command.specs.Summary.{WritesSummary}
use Rattle.ipam_command.specs.Headline.{script_in}
use Rattle.ipam_commands.specs.declared.outcome.ChangeOutcome.{ChangeOutcome}
use Rattle.ipam_commands.specs.Changing.{IsChanged, OpenedSo, outcome_status, release_line}
use Rattle.ipam_commands.specs.Statuses.{code_of_status}
use Rattle.ipam_commands.specs.Telling.{AreBroken, AreOpened}
use Rattle.ipam_views.specs.Shown.{shown_text}
use Rattle.ipam_commands.specs.Texts.{routes_text}
use Rattle.ipam_show.specs.Rows.{rows_text}
use Rattle.ipam_resources.specs.declared.fault.DocumentFault.{DocumentFault}
use Rattle.ipam_resources.specs.declared.refusal.Refusal.{Refusal}
use Rattle.ipam_resources.specs.declared.resource.Resource.{Resource}
use Rattle.ipam_resources.specs.Documents.{document_reading}
use Rattle.ipam_resources.specs.Printed.{fault_line, answer_refusal, refused_line}
use Rattle.ipam_commands.specs.Applying.{AreApplied, alone_on, applied_lines}
use Rattle.ipam_commands.specs.Inputs.{IsDocument}
use Rattle.std.specs.Prelude.{IfSome}
use Rattle.cni_types.specs.declared.version.Version.TheVariants.{V1_0_0}
use Rattle.cni_types.specs.Reading.{Pair}
use Rattle.cni_types.specs.Texts.{error_text}
use Rattle.ipam_call.specs.Versions.{version_for}
use Rattle.ipam_command.specs.declared.cni_end.CniFault.TheVariants.{Memory}
use Rattle.ipam_command.specs.Calls.{IsInput}
use Rattle.ipam_command.specs.Ends.{fault_error}
use Rattle.ipam_command.specs.Replies.{ComesTo, StatusAndText}
use Rattle.ipam_command.specs.CniCalls.{IsReplySaid}
use Rattle.ipam_command.specs.Commands.{unknown_text}
use Rattle.ipam_keeper.specs.Outside.{Outside, LeavesKeeper}

-- ---- which commands use what

-- what reads the source: `play`, `apply` and a CNI call
abbrev pub reads : Option AskedCommand → Bool
reads (Some Play) = true
reads (Some Apply) = true
reads (Some Cni) = true
reads _ = false

-- what asks the keeper: a CNI call, `apply`, `get`, `show`, `routes` and `release`
abbrev pub asks_keeper : Option AskedCommand → Bool
asks_keeper (Some Cni) = true
asks_keeper (Some Apply) = true
asks_keeper (Some (Get kind)) = true
asks_keeper (Some (Show view)) = true
asks_keeper (Some (Routes node)) = true
asks_keeper (Some (Release node cidr)) = true
asks_keeper _ = false

-- ---- completeness

-- no count of faults rose
pub record NoFault (old new : Outside) : Type 0 where
  pub source : ¬ (Rose old.read_faults new.read_faults)
  pub sink : ¬ (Rose old.write_faults new.write_faults)
  pub keeper : ¬ (Rose old.keeper_faults new.keeper_faults)

-- the text was written, all of it, with this status
abbrev pub IsWholeText : (text : List ℕ) (own : ℕ) (old new : Outside) (status : ℕ) → Type 0
IsWholeText text own old new status = (new.written ≡ append_known old.written text) × (status ≡ own)

-- what is so of the text and the status that a command comes to
abbrev pub Written : Type 1
Written = (text : List ℕ) (own : ℕ) → Type 0

-- the text of the rows that open, or the first rule that they break
pub data OfRows (told : Option (List RowText)) (says : List RowText → Datastore → List ℕ) (written : Written) : Type 0 where
  Opened : (rows : List RowText) (store : Datastore) → AreOpened told rows store → written (says rows store) 0 → OfRows told says written
  Broken : (number : ℕ) (about : List ℕ) → AreBroken told number about → written (broken_line number about) 7 → OfRows told says written

-- the outcome of the release over the rows that open, or the first rule that they break
pub data OfRelease (node : List ℕ) (cidr : CidrValue) (old new : Outside) (written : Written) : Type 0 where
  Came : (found : ChangeOutcome) → OpenedSo old.rows (λ store. IsChanged store (request.Release node cidr) found new.rows)
      → written (release_line found) (code_of_status (outcome_status found)) → OfRelease node cidr old new written
  NotCome : (number : ℕ) (about : List ℕ) → AreBroken old.rows number about
      → written (broken_line number about) 7 → OfRelease node cidr old new written

-- the lines of a document's resources up to the first that is refused, or its first fault, or the first
-- rule that the rows break
pub data OfApply (old new : Outside) (written : Written) : Type 0 where
  Bad : (document : List ℕ) (fault : DocumentFault) → IsDocument old.left new.left document → document_reading document ≡ Err fault
      → written (fault_line fault) 1 → OfApply old new written
  NotApplied : (document : List ℕ) (resources : List Resource) (number : ℕ) (about : List ℕ)
      → IsDocument old.left new.left document → document_reading document ≡ Ok resources → AreBroken old.rows number about
      → written (broken_line number about) 7 → OfApply old new written
  All : (document : List ℕ) (resources : List Resource) (rows : List RowText) (store left : Datastore)
      → IsDocument old.left new.left document → document_reading document ≡ Ok resources → AreOpened old.rows rows store
      → AreApplied store resources left → written (applied_lines resources) 0 → OfApply old new written
  UpTo : (document : List ℕ) (resources front : List Resource) (one : Resource) (rest : List Resource) (rows : List RowText) (store before : Datastore) (why : Refusal)
      → IsDocument old.left new.left document → document_reading document ≡ Ok resources → AreOpened old.rows rows store
      → resources ≡ front ++ one ∷ rest → AreApplied store front before → answer_refusal (alone_on before one).0 ≡ Some why
      → written (applied_lines front ++ refused_line one why) 1 → OfApply old new written

-- what the call comes to with what was read of the source; or that there was no memory, in the version of
-- the source's bytes, or in 1.0.0 where these could not be read
pub data OfCall (env : List Pair) (old new : Outside) (status : ℕ) : Type 0 where
  Replied : (stdin : List ℕ) (reply : StatusAndText) → IsInput stdin old.left new.left → ComesTo env stdin old.rows new.rows reply
      → IsReplySaid reply old new status → OfCall env old new status
  NoMemory : (stdin : List ℕ) → IsInput stdin old.left new.left → IsReplySaid (1, error_text (fault_error (version_for stdin) Memory)) old new status
      → OfCall env old new status
  Unread : LeavesKeeper old new → IsReplySaid (1, error_text (fault_error V1_0_0 Memory)) old new status
      → OfCall env old new status

-- the status of a script that was played to this end
abbrev pub ending_status : Ending → ℕ
ending_status Whole = 0
ending_status (LineRefused number why) = 8
ending_status (NotOpened rule about) = 7

-- What a command writes is its whole text, with its status.
abbrev pub IsComplete : List Pair → Option AskedCommand → (old new : Outside) → (status : ℕ) → Type 0
IsComplete env (Some Cni) old new status = OfCall env old new status
IsComplete env (Some Play) old new status =
    IfSome old.left (λ bytes. WritesAll (script_in bytes) old.written new.written (λ ending. status ≡ ending_status ending))
IsComplete env (Some (Gen count)) old new status = WritesSummary count old.written new.written × (status ≡ 0)
IsComplete env (Some (Get kind)) old new status =
    OfRows old.rows (λ rows store. rows_text kind rows) (λ text own. IsWholeText text own old new status)
IsComplete env (Some (Show view)) old new status =
    OfRows old.rows (λ rows store. shown_text view store) (λ text own. IsWholeText text own old new status)
IsComplete env (Some (Routes node)) old new status =
    OfRows old.rows (λ rows store. routes_text node store) (λ text own. IsWholeText text own old new status)
IsComplete env (Some (Release node cidr)) old new status =
    OfRelease node cidr old new (λ text own. IsWholeText text own old new status)
IsComplete env (Some Apply) old new status = OfApply old new (λ text own. IsWholeText text own old new status)
IsComplete env (Some Help) old new status = IsWholeText HELP.now 0 old new status
IsComplete env (Some Version) old new status = IsWholeText VERSION.now 0 old new status
IsComplete env (Some (Audit workers)) old new status = IsWholeText unknown_text 2 old new status
IsComplete env (Some (Serve address workers)) old new status = IsWholeText unknown_text 2 old new status
IsComplete env (Some (Call address)) old new status = IsWholeText unknown_text 2 old new status
IsComplete env None old new status = IsWholeText unknown_text 2 old new status

-- where no count of faults rose, it is complete, or the status is that of no memory
abbrev pub CompleteLaw : List Pair → Option AskedCommand → (old new : Outside) → (status : ℕ) → Type 0
CompleteLaw env asked old new status = NoFault old new → (status ≡ 6) ⊎ IsComplete env asked old new status
