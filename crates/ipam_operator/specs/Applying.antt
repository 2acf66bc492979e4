-- What `apply` does, resource by resource.
use Rattle.std.specs.Prelude.{◌≡◌, ◌≢◌, ℕ, List, [], ◌∷◌, ◌++◌, ◌+◌, ◌≤◌, length, codes, Option, Some, None, Result, Ok, Err}
use Rattle.std.specs.Io.KnownBytes.{prepend_known, IsAtEnd}
use Rattle.ipam_io.specs.Counts.{Rose}
use Rattle.ipam_model.specs.declared.request.Request.TheVariants.{Admin}
use Rattle.ipam_resources.specs.declared.fault.DocumentFault.{DocumentFault}
use Rattle.ipam_resources.specs.declared.fault.DocumentFault.TheVariants as document_fault
use Rattle.ipam_resources.specs.declared.fault.TheConstants.{DOCUMENT_MAX}
use Rattle.ipam_resources.specs.declared.refusal.Refusal.{Refusal}
use Rattle.ipam_resources.specs.declared.refusal.Refusal.TheVariants as refusal
use Rattle.ipam_resources.specs.declared.resource.Resource.{Resource}
use Rattle.ipam_resources.specs.Documents.{IsReadable, document_reading}
use Rattle.ipam_resources.specs.Printed.{numbered_refusal, resource_text, applied_line, refused_line, fault_line as document_line}
use Rattle.ipam_operator.specs.declared.asking.AskFault.{AskFault}
use Rattle.ipam_operator.specs.declared.asking.AskFault.TheVariants as ask_fault
use Rattle.ipam_operator.specs.declared.answer.OperatorAnswer.{OperatorAnswer}
use Rattle.ipam_operator.specs.declared.answer.OperatorAnswer.TheVariants as answer
use Rattle.ipam_operator.specs.declared.end.End.{End}
use Rattle.ipam_operator.specs.declared.end.End.TheVariants as end
use Rattle.ipam_operator.specs.Asking.{Wire, Asks, request_line}
use Rattle.ipam_operator.specs.Answers.{answer_of_line}
use Rattle.ipam_operator.specs.Telling.{Says, WritesText, fault_line, fault_end}

-- ---- the lines

-- the line of a resource whose request lost too many races
abbrev pub again_line : Resource → List ℕ
again_line one = codes "refused " ++ (resource_text one ++ codes ": try again\n")

abbrev pub line_of_refusal : Resource → Option Refusal → List ℕ
line_of_refusal one (Some why) = refused_line one why
line_of_refusal one None = codes "reply fault\n"

abbrev pub end_of_refusal : Option Refusal → End
end_of_refusal (Some why) = end.Refused
end_of_refusal None = end.ReplyFault

-- what is written of a resource whose request came to this
abbrev pub item_line : Resource → Result OperatorAnswer AskFault → List ℕ
item_line one (Ok answer.Done) = applied_line one
item_line one (Ok answer.Released) = codes "reply fault\n"
item_line one (Ok answer.NoAffinity) = codes "reply fault\n"
item_line one (Ok (answer.Refused number name)) = line_of_refusal one (numbered_refusal number name)
item_line one (Ok answer.Full) = refused_line one refusal.Full
item_line one (Ok answer.Spent) = refused_line one refusal.Spent
item_line one (Ok answer.Again) = again_line one
item_line one (Ok answer.Fault) = codes "keeper fault\n"
item_line one (Err why) = fault_line why

-- how the run ends at a resource whose request came to this; where it is done, the run goes on
abbrev pub item_end : Result OperatorAnswer AskFault → End
item_end (Ok answer.Done) = end.Done
item_end (Ok answer.Released) = end.ReplyFault
item_end (Ok answer.NoAffinity) = end.ReplyFault
item_end (Ok (answer.Refused number name)) = end_of_refusal (numbered_refusal number name)
item_end (Ok answer.Full) = end.Refused
item_end (Ok answer.Spent) = end.Refused
item_end (Ok answer.Again) = end.Refused
item_end (Ok answer.Fault) = end.KeeperFault
item_end (Err why) = fault_end why

-- the line of a refusal that is known has the resource in it
abbrev pub IsKnown : Option Refusal → Type 0
IsKnown (Some why) = Unit {0}
IsKnown None = ⊥

-- What is written takes memory: a line that has the resource in it does. Where the asking ended in want of
-- memory there is nothing to write. `keeper fault`, `link fault` and `reply fault` take none.
abbrev pub TakesMemory : Result OperatorAnswer AskFault → Type 0
TakesMemory (Ok answer.Done) = Unit {0}
TakesMemory (Ok answer.Released) = ⊥
TakesMemory (Ok answer.NoAffinity) = ⊥
TakesMemory (Ok (answer.Refused number name)) = IsKnown (numbered_refusal number name)
TakesMemory (Ok answer.Full) = Unit {0}
TakesMemory (Ok answer.Spent) = Unit {0}
TakesMemory (Ok answer.Again) = Unit {0}
TakesMemory (Ok answer.Fault) = ⊥
TakesMemory (Err ask_fault.Link) = ⊥
TakesMemory (Err ask_fault.Reply) = ⊥
TakesMemory (Err ask_fault.Memory) = Unit {0}

-- ---- one resource

-- what there is outside
pub record AskedOutside : Type 0 where
  pub wire : Wire
  -- the bytes that the sink took
  pub written : Option (List ℕ)
  pub write_faults : ℕ

abbrev pub asked_outside_of : (sent : Option (List ℕ)) (send_faults : ℕ) (coming : Option (List ℕ)) (read_faults : ℕ) (written : Option (List ℕ)) (write_faults : ℕ) → AskedOutside
asked_outside_of sent send_faults coming read_faults written write_faults = record {
  wire = record { sent = sent; send_faults = send_faults; coming = coming; read_faults = read_faults };
  written = written;
  write_faults = write_faults;
}

-- The resource's request was asked, and the line of what it came to was written. Where that takes memory and
-- there was none, nothing was.
pub record IsTold (one : Resource) (came : Result OperatorAnswer AskFault) (old new : AskedOutside) (last : End) : Type 0 where
  pub asked : Asks answer_of_line (request_line (Admin one.change)) came old.wire new.wire
  pub told : Says (TakesMemory came) old.written new.written old.write_faults new.write_faults (item_line one came) (item_end came) last

-- ---- all of them

-- each was asked for, answered as done, and told
abbrev pub AreApplied : List Resource → (old new : AskedOutside) → Type 0
AreApplied [] old new = new ≡ old
AreApplied (one ∷ more) old new =
    (between : AskedOutside) × (came : Result OperatorAnswer AskFault) × IsTold one came old between end.Done × AreApplied more between new

-- How the resources end: each is applied; or those before one are, and the run ends at that one.
pub data AskedResourcesEnd (resources : List Resource) (old new : AskedOutside) : End → Type 0 where
  All : AreApplied resources old new → AskedResourcesEnd resources old new end.Done
  UpTo : (front : List Resource) (one : Resource) (rest : List Resource) (between : AskedOutside) (came : Result OperatorAnswer AskFault) (last : End)
      → resources ≡ front ++ one ∷ rest → AreApplied front old between
      → IsTold one came between new last → last ≢ end.Done → AskedResourcesEnd resources old new last

-- What is written of a document that was not read: `refused: long` and `refused: not JSON` take no memory.
-- With no memory nothing is.
abbrev pub DocumentSays : DocumentFault → (old new : Option (List ℕ)) → (faults faults' : ℕ) → End → Type 0
DocumentSays document_fault.Long old new faults faults' last =
    WritesText old new faults faults' (document_line document_fault.Long) end.Refused last
DocumentSays document_fault.NotJson old new faults faults' last =
    WritesText old new faults faults' (document_line document_fault.NotJson) end.Refused last
DocumentSays (document_fault.Member place) old new faults faults' last =
    Says (Unit {0}) old new faults faults' (document_line (document_fault.Member place)) end.Refused last
DocumentSays document_fault.Memory old new faults faults' last = (new ≡ old) × (faults' ≡ faults) × (last ≡ end.NoMemory)

-- How a document ends. All of it is read first: a bad one is refused by its first fault, and nothing is asked.
-- One that is too long or no text is refused whether or not there is memory.
pub data DocumentEnds (document : List ℕ) (old new : AskedOutside) (last : End) : Type 0 where
  Good : (resources : List Resource) → document_reading document ≡ Ok resources
      → AskedResourcesEnd resources old new last → DocumentEnds document old new last
  Bad : (why : DocumentFault) → (why ≢ document_fault.Memory → document_reading document ≡ Err why)
      → (why ≡ document_fault.Memory → IsReadable document) → new.wire ≡ old.wire
      → DocumentSays why old.written new.written old.write_faults new.write_faults last
      → DocumentEnds document old new last

-- How `apply` ends: with what the source's document comes to; or the source failed, or there was no
-- memory for the document, and nothing is asked.
pub data ApplyEnds (left left' : Option (List ℕ)) (faults faults' : ℕ) (old new : AskedOutside) (last : End) : Type 0 where
  Read : (document : List ℕ) → left ≡ prepend_known document left' → (length document ≤ DOCUMENT_MAX → IsAtEnd left')
      → length document ≤ DOCUMENT_MAX + 1 → faults' ≡ faults
      → DocumentEnds document old new last → ApplyEnds left left' faults faults' old new last
  ReadFailed : Rose faults faults' → new.wire ≡ old.wire
      → WritesText old.written new.written old.write_faults new.write_faults (codes "read fault\n") end.ReadFault last
      → ApplyEnds left left' faults faults' old new last
  NoInput : faults' ≡ faults → new ≡ old → last ≡ end.NoMemory → ApplyEnds left left' faults faults' old new last
