-- What comes of resources that are applied one after another.
use Rattle.std.specs.Prelude.{◌≡◌, ◌≢◌, ℕ, List, [], ◌∷◌, ◌++◌, Some}
use Rattle.ipam_io.specs.Counts.{Rose}
use Rattle.ipam_records.specs.Datastore.{Datastore}
use Rattle.ipam_model.specs.declared.answer.Answer.{Answer}
use Rattle.ipam_model.specs.declared.answer.Answer.TheVariants as answer
use Rattle.ipam_model.specs.declared.request.Request.{Request}
use Rattle.ipam_model.specs.declared.request.Request.TheVariants.{Admin}
use Rattle.ipam_model.specs.Alone.{alone_over}
use Rattle.ipam_shared.specs.Kept.{opened}
use Rattle.ipam_resources.specs.declared.refusal.Refusal.{Refusal}
use Rattle.ipam_resources.specs.declared.resource.Resource.{Resource}
use Rattle.ipam_resources.specs.Printed.{applied_line, answer_refusal, refused_line}
use Rattle.ipam_commands.specs.declared.status.Status.{Status}
use Rattle.ipam_commands.specs.declared.status.Status.TheVariants as status
use Rattle.ipam_shared.specs.Courses.{IsAnswerCourse, IsFaultCourse}
use Rattle.ipam_commands.specs.Courses.{IsStopCourse}
use Rattle.ipam_commands.specs.Telling.{keeper_line}
use Rattle.ipam_commands.specs.declared.step.Step.{Step}
use Rattle.ipam_commands.specs.declared.step.Step.TheVariants.{Applied, Ended}
use Rattle.ipam_keeper.specs.Outside.{Outside}
use Rattle.ipam_commands.specs.Outside.{IsLeft, IsUntold, EndsSaying, Took, with_told}

-- ---- resources that are applied

-- what a resource asks
abbrev pub change_asked : Resource → Request
change_asked one = Admin one.change

-- what the resource's request by itself is answered on a datastore, and the datastore that it leaves
abbrev pub alone_on : Datastore → Resource → Answer × Datastore
alone_on store one = alone_over (opened store) (change_asked one)

abbrev pub IsApplied : Answer → Type 0
IsApplied (answer.Done revision) = Unit {0}
IsApplied _ = ⊥

-- a lawful history in which the resource's request, by itself on the datastore, comes to that
abbrev pub HasCourse : Datastore → Resource → Type 0
HasCourse store one =
    (first : ℕ) × IsAnswerCourse (record { store = store; first = first }) (change_asked one) (alone_on store one).0 (alone_on store one).1

-- the resource's request by itself is applied on the datastore
abbrev pub IsAppliedOn : Datastore → Resource → Type 0
IsAppliedOn store one = IsApplied (alone_on store one).0 × HasCourse store one

-- each is applied on the datastore that the one before left, and the last leaves this
abbrev pub AreApplied : Datastore → List Resource → (left : Datastore) → Type 0
AreApplied store [] left = left ≡ store
AreApplied store (one ∷ more) left = IsAppliedOn store one × AreApplied (alone_on store one).1 more left

-- a line for each of them
abbrev pub applied_lines : List Resource → List ℕ
applied_lines [] = []
applied_lines (one ∷ more) = applied_line one ++ applied_lines more

-- ---- the resource at which a run ends

-- How a run ends at this resource, on the datastore that those before it left: it is refused; or it is
-- applied, and the sink failed or there was no memory for its line; or the keeper failed; or there was
-- no memory for its request.
pub data EndsAt (store : Datastore) (one : Resource) (old new : Outside) (end : Status) : Type 0 where
  Refused : (why : Refusal) → answer_refusal (alone_on store one).0 ≡ Some why → HasCourse store one → IsLeft (alone_on store one).1 old new
      → EndsSaying old new (refused_line one why) status.Refused end → EndsAt store one old new end
  Untold : IsAppliedOn store one → IsLeft (alone_on store one).1 old new
      → EndsSaying old new (applied_line one) status.Done end → end ≢ status.Done → EndsAt store one old new end
  KeeperFailed : (first : ℕ) → IsFaultCourse (record { store = store; first = first }) (change_asked one) new.rows
      → Rose old.keeper_faults new.keeper_faults → EndsSaying old new keeper_line status.KeeperFault end → EndsAt store one old new end
  Stopped : (first : ℕ) → IsStopCourse (record { store = store; first = first }) (change_asked one) new.rows
      → IsUntold old new end → new.keeper_faults ≡ old.keeper_faults → EndsAt store one old new end

-- what comes of one resource
abbrev pub StepEnds : Datastore → Resource → (old new : Outside) → Step → Type 0
StepEnds store one old new Applied =
    IsAppliedOn store one × IsLeft (alone_on store one).1 old new × Took old new (applied_line one)
StepEnds store one old new (Ended end) = EndsAt store one old new end

-- ---- all of them

-- How the resources end that are applied one after another on this datastore: each is applied and its line written;
-- or those before one are, and the run ends at that one.
pub data RunEnds (store : Datastore) (resources : List Resource) (old new : Outside) (end : Status) : Type 0 where
  All : (left : Datastore) → AreApplied store resources left → IsLeft left old new
      → Took old new (applied_lines resources) → end ≡ status.Done → RunEnds store resources old new end
  UpTo : (front : List Resource) (one : Resource) (rest : List Resource) (before : Datastore)
      → resources ≡ front ++ one ∷ rest → AreApplied store front before
      → EndsAt before one (with_told old (applied_lines front)) new end → RunEnds store resources old new end
