-- How a request that changes one thing ends, and what it leaves of a keeper's rows: `release` and `unreserve`.
use Rattle.std.specs.Prelude.{◌≡◌, ◌⊎◌, ℕ, List, codes, Option, Some, None, Result, Ok, Err}
use Rattle.ipam_io.specs.Counts.{Rose}
use Rattle.ipam_records.specs.declared.call.Row.{Row as RowText}
use Rattle.ipam_records.specs.Datastore.{Datastore}
use Rattle.ipam_model.specs.declared.answer.Answer.{Answer}
use Rattle.ipam_model.specs.declared.answer.Answer.TheVariants as answer
use Rattle.ipam_model.specs.declared.request.Admin.TheVariants as change
use Rattle.ipam_model.specs.declared.request.Request.{Request}
use Rattle.ipam_model.specs.declared.request.Request.TheVariants as request
use Rattle.ipam_model.specs.Alone.{alone_over}
use Rattle.ipam_model.specs.CanAnswer.{CanAnswer}
use Rattle.ipam_shared.specs.Kept.{opened}
use Rattle.ipam_shared.specs.declared.kept.KeptFault.{KeptFault}
use Rattle.ipam_shared.specs.declared.kept.KeptFault.TheVariants as fault
use Rattle.ipam_commands.specs.declared.outcome.ChangeOutcome.{ChangeOutcome}
use Rattle.ipam_commands.specs.declared.outcome.ChangeOutcome.TheVariants as outcome
use Rattle.ipam_commands.specs.declared.status.Status.{Status}
use Rattle.ipam_commands.specs.declared.status.Status.TheVariants as status
use Rattle.ipam_shared.specs.Courses.{IsAnswerCourse, IsFaultCourse}
use Rattle.ipam_commands.specs.Courses.{AreRowsOf, IsStopCourse}
use Rattle.ipam_commands.specs.Telling.{AreBroken, AreOpened, FaultWrites}

-- ---- what the request comes to

-- it releases an affinity, or takes back a reservation
abbrev pub IsChange : Request → Type 0
IsChange (request.Release node cidr) = Unit {0}
IsChange (request.Admin (change.Unreserve name)) = Unit {0}
IsChange _ = ⊥

-- What an answer to it comes to; `Again` and the answers to other requests come to nothing. A release has no
-- answer `Done` and no refusal, and the other no answer of a release. Of the refusals it has one alone,
-- `IsNotThere`.
abbrev pub outcome_of : Answer → Option (Result ChangeOutcome KeptFault)
outcome_of answer.Released = Some (Ok outcome.Made)
outcome_of (answer.Done revision) = Some (Ok outcome.Made)
outcome_of (answer.NoAffinity moment) = Some (Ok outcome.Absent)
outcome_of (answer.Refused number name) = Some (Ok outcome.Absent)
outcome_of answer.Full = Some (Ok outcome.Full)
outcome_of answer.Spent = Some (Ok outcome.Spent)
outcome_of answer.Fault = Some (Err fault.Keeper)
outcome_of _ = None

-- of a refusal: that no reservation has this name, which has the number 8
abbrev pub IsNotThere : (name : List ℕ) → Answer → Type 0
IsNotThere name (answer.Refused number about) = (number ≡ 8) × (about ≡ name)
IsNotThere name _ = Unit {0}

-- ---- what is written

-- the line of an outcome, where these two lines say that the change was made, and that there was nothing to change
abbrev pub change_line : (made absent : List ℕ) → ChangeOutcome → List ℕ
change_line made absent outcome.Made = made
change_line made absent outcome.Absent = absent
change_line made absent outcome.Full = codes "full\n"
change_line made absent outcome.Spent = codes "spent\n"

abbrev pub release_line : ChangeOutcome → List ℕ
release_line = change_line (codes "released\n") (codes "no affinity\n")

abbrev pub unreserve_line : ChangeOutcome → List ℕ
unreserve_line = change_line (codes "unreserved\n") (codes "no reservation\n")

abbrev pub outcome_status : ChangeOutcome → Status
outcome_status outcome.Made = status.Done
outcome_status _ = status.Refused

-- What is written, by what the request came to. The line of an outcome takes no memory: `told` says that
-- the end is not want of it.
abbrev pub ChangeWrites : (line : ChangeOutcome → List ℕ) → (writes : List ℕ → Status → Type 0) → (told : Type 0) → Result ChangeOutcome KeptFault → Type 0
ChangeWrites line writes told (Ok found) = writes (line found) (outcome_status found) × told
ChangeWrites line writes told (Err why) = FaultWrites writes why

-- ---- a request over a datastore

-- the request by itself has an answer of its own with this outcome, by a lawful history of its own, and the
-- rows are those of the datastore that it leaves
pub record IsChanged (store : Datastore) (asked : Request) (found : ChangeOutcome) (new : Option (List RowText)) : Type 0 where
  pub answer : outcome_of (alone_over (opened store) asked).0 ≡ Some (Ok found)
  pub own : CanAnswer asked (alone_over (opened store) asked).0
  pub rows : AreRowsOf new (alone_over (opened store) asked).1
  pub course : IsAnswerCourse (opened store) asked (alone_over (opened store) asked).0 (alone_over (opened store) asked).1

-- How a request runs over a datastore.
abbrev pub ChangeRuns : (store : Datastore) → Request → Result ChangeOutcome KeptFault → (new : Option (List RowText)) → (faults faults' : ℕ) → Type 0
ChangeRuns store asked (Ok found) new faults faults' = (faults' ≡ faults) × IsChanged store asked found new
ChangeRuns store asked (Err fault.Keeper) new faults faults' = Rose faults faults' × IsFaultCourse (opened store) asked new
ChangeRuns store asked (Err (fault.Refused number about)) new faults faults' = ⊥
ChangeRuns store asked (Err fault.Memory) new faults faults' = (faults' ≡ faults) × IsStopCourse (opened store) asked new

-- ---- over a keeper's rows

-- the rows open as a datastore of which this is so
pub record OpenedSo (old : Option (List RowText)) (p : Datastore → Type 0) : Type 0 where
  pub rows : List RowText
  pub store : Datastore
  pub opened : AreOpened old rows store
  pub so : p store

-- How the request ends over a keeper's rows: with the outcome of the request that runs by itself; or the
-- keeper failed; or the rows may not be opened, and stay; or there was no memory.
abbrev pub ChangeEnds : Request → Result ChangeOutcome KeptFault → (old new : Option (List RowText)) → (faults faults' : ℕ) → Type 0
ChangeEnds asked (Ok found) old new faults faults' =
    (faults' ≡ faults) × OpenedSo old (λ store. IsChanged store asked found new)
ChangeEnds asked (Err fault.Keeper) old new faults faults' =
    Rose faults faults' × ((new ≡ old) ⊎ OpenedSo old (λ store. IsFaultCourse (opened store) asked new))
ChangeEnds asked (Err (fault.Refused number about)) old new faults faults' =
    (faults' ≡ faults) × AreBroken old number about × (new ≡ old)
ChangeEnds asked (Err fault.Memory) old new faults faults' =
    (faults' ≡ faults) × ((new ≡ old) ⊎ OpenedSo old (λ store. IsStopCourse (opened store) asked new))
