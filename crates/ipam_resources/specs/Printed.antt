-- The lines that tell of resources.
use Rattle.std.specs.Prelude.{ℕ, ◌==◌, List, ◌++◌, codes, Option, Some, None, ⊤, if◌then◌else◌}
use Rattle.ipam_model.specs.declared.answer.Answer.{Answer}
use Rattle.ipam_model.specs.declared.answer.Answer.TheVariants as answer
use Rattle.ipam_resources.specs.declared.fault.DocumentFault.{DocumentFault}
use Rattle.ipam_resources.specs.declared.fault.DocumentFault.TheVariants as fault
use Rattle.ipam_resources.specs.declared.refusal.Refusal.{Refusal}
use Rattle.ipam_resources.specs.declared.refusal.Refusal.TheVariants as refusal
use Rattle.ipam_resources.specs.declared.resource.Resource.{Resource}
use Rattle.ipam_resources.specs.Naming.{resource_kind_text, place_path}

-- ---- why a resource is refused

-- the refusal of this number, about the pool of this name
unfoldable pub numbered_refusal : (number : ℕ) (name : List ℕ) → Option Refusal
numbered_refusal number name =
    if number == 1 then Some refusal.NameTaken
    else (if number == 2 then Some (refusal.Overlaps name)
    else (if number == 3 then Some refusal.BlockSize
    else (if number == 4 then Some refusal.Prefix
    else (if number == 5 then Some refusal.TooManyPools
    else (if number == 7 then Some refusal.TooManyReservations
    else None)))))

-- the refusal that an answer to the change of a resource is
abbrev pub answer_refusal : Answer → Option Refusal
answer_refusal (answer.Refused number name) = numbered_refusal number name
answer_refusal answer.Full = Some refusal.Full
answer_refusal answer.Spent = Some refusal.Spent
answer_refusal _ = None

abbrev pub refusal_text : Refusal → List ℕ
refusal_text refusal.NameTaken = codes "name taken"
refusal_text (refusal.Overlaps pool) = codes "overlaps " ++ pool
refusal_text refusal.BlockSize = codes "block size out of range"
refusal_text refusal.Prefix = codes "prefix longer than block size"
refusal_text refusal.TooManyPools = codes "64 pools"
refusal_text refusal.TooManyReservations = codes "256 reservations"
refusal_text refusal.Full = codes "full"
refusal_text refusal.Spent = codes "spent"

-- ---- the lines

abbrev pub resource_text : Resource → List ℕ
resource_text r = resource_kind_text r.kind ++ (codes " " ++ r.name)

unfoldable pub applied_line : Resource → List ℕ
applied_line r = codes "applied " ++ (resource_text r ++ codes "\n")

unfoldable pub refused_line : Resource → Refusal → List ℕ
refused_line r why =
    codes "refused " ++ (resource_text r ++ (codes ": " ++ (refusal_text why ++ codes "\n")))

abbrev pub fault_text : DocumentFault → List ℕ
fault_text fault.Long = codes "long"
fault_text fault.NotJson = codes "not JSON"
fault_text (fault.Member place) = place_path place
fault_text fault.Memory = codes "want of memory"

unfoldable pub fault_line : DocumentFault → List ℕ
fault_line why = codes "refused: " ++ (fault_text why ++ codes "\n")

-- the line is the same for each document with this fault, so it takes no memory
abbrev pub HasFixedLine : DocumentFault → Type 0
HasFixedLine fault.Long = ⊤
HasFixedLine fault.NotJson = ⊤
HasFixedLine (fault.Member place) = ⊥
HasFixedLine fault.Memory = ⊥
