-- What is written of an answer.
use Rattle.std.specs.Prelude.{◌≡◌, ◌≢◌, ◌⊎◌, ℕ, List, Some}
use Rattle.ipam_model.specs.declared.answer.Answer.{Answer}
use Rattle.ipam_model.specs.declared.answer.Answer.TheVariants as answer
use Rattle.ipam_resources.specs.declared.fault.DocumentFault.{DocumentFault}
use Rattle.ipam_resources.specs.declared.fault.DocumentFault.TheVariants as document_fault
use Rattle.ipam_resources.specs.declared.refusal.Refusal.{Refusal}
use Rattle.ipam_resources.specs.declared.resource.Resource.{Resource}
use Rattle.ipam_resources.specs.Printed.{applied_line, fault_line, answer_refusal, refused_line}
use Rattle.ipam_commands.specs.declared.status.Status.{Status}
use Rattle.ipam_commands.specs.declared.status.Status.TheVariants as status
use Rattle.ipam_commands.specs.Telling.{keeper_line}
use Rattle.ipam_commands.specs.declared.step.Step.{Step}
use Rattle.ipam_commands.specs.declared.step.Step.TheVariants.{Applied, Ended}
use Rattle.ipam_commands.specs.Applying.{IsApplied}

-- the answers that the request of a resource can have
pub data MayBeTold (told : Answer) : Type 0 where
  Applies : IsApplied told → MayBeTold told
  Refuses : (why : Refusal) → answer_refusal told ≡ Some why → MayBeTold told
  Fails : told ≡ answer.Fault → MayBeTold told

-- what is so of a text, the status that a run would end with, and the status with which it ends
abbrev pub Writing : Type 1
Writing = List ℕ → Status → Status → Type 0

-- the line of a resource that is applied: where all of it is written, the run goes on
abbrev pub TellsApplied : Resource → Writing → Step → Type 0
TellsApplied one writes Applied = writes (applied_line one) status.Done status.Done
TellsApplied one writes (Ended end) = writes (applied_line one) status.Done end × (end ≢ status.Done)

abbrev pub TellsRefused : Resource → Answer → Writing → Status → Type 0
TellsRefused one told writes end =
    (why : Refusal) × (answer_refusal told ≡ Some why) × writes (refused_line one why) status.Refused end

-- what is written of an answer
abbrev pub TellsAnswer : Resource → Answer → Writing → Step → Type 0
TellsAnswer one told writes Applied = IsApplied told × TellsApplied one writes Applied
TellsAnswer one told writes (Ended end) =
    (IsApplied told × TellsApplied one writes (Ended end))
    ⊎ TellsRefused one told writes end
    ⊎ ((told ≡ answer.Fault) × writes keeper_line status.KeeperFault end)

-- what is written of a document's fault; with no memory, nothing
abbrev pub TellsFault : DocumentFault → Writing → Status → Type 0
TellsFault document_fault.Memory writes end = end ≡ status.NoMemory
TellsFault why writes end = writes (fault_line why) status.Refused end
