-- A request that runs by itself, and is answered once its keeper is sure of all rows.
use Rattle.std.specs.Prelude.{◌≡◌, ◌≢◌, ℕ, []}
use Rattle.ipam_io.specs.Counts.{Rose}
use Rattle.ipam_model.specs.declared.answer.Answer.{Answer}
use Rattle.ipam_model.specs.declared.answer.Answer.TheVariants.{Fault}
use Rattle.ipam_model.specs.declared.request.Request.{Request}
use Rattle.ipam_model.specs.CanAnswer.{CanAnswer}
use Rattle.ipam_model.specs.History.{Base}
use Rattle.ipam_shared.specs.declared.kept.Kept.{Kept}
use Rattle.ipam_shared.specs.Courses.{IsFaultCourse}
use Rattle.ipam_shared.specs.Kept.{KeptFor, Stays, Tells}
use Rattle.ipam_shared.specs.Solo.{IsAnswered}

-- It was answered, and the keeper is sure of all rows, so that a crash leaves them.
pub record IsDurable {D : Type 0} (tells sure : Tells D) (faults : D → ℕ) (request : Request) (old new : Kept D) (told : Answer) : Type 0 where
  pub answered : IsAnswered tells faults request old new told
  pub settled : sure new.keeper ≡ tells new.keeper

-- The keeper failed, at a call or where it was to make sure of the rows. They are those of a course that ends in
-- a call at which it failed, but for the row in doubt: where all calls were done, it is the last one's.
pub record HasFailed {D : Type 0} (tells : Tells D) (faults : D → ℕ) (request : Request) (old new : Kept D) (told : Answer) : Type 0 where
  pub fault : Rose (faults old.keeper) (faults new.keeper)
  pub is_fault : told ≡ Fault
  pub course : (base : Base) → KeptFor tells old base [] → IsFaultCourse base request (tells new.keeper)

-- It came to an answer, and there was no memory to make sure of the rows.
pub record IsUnsure {D : Type 0} (tells : Tells D) (faults : D → ℕ) (request : Request) (old new : Kept D) : Type 0 where
  pub told : Answer
  pub can_answer : CanAnswer request told
  pub answered : IsAnswered tells faults request old new told

-- ---- the settling

-- but for what the keeper is sure of, nothing has changed
pub record OnlySettles {D : Type 0} (tells : Tells D) (old new : Kept D) : Type 0 where
  pub cluster : new.cluster ≡ old.cluster
  pub doubt : new.doubt ≡ old.doubt
  pub rows : tells new.keeper ≡ tells old.keeper
  pub stays : Stays tells old new

-- The answer that is returned: the request's own, where the keeper had failed before and is asked nothing, or
-- where it made sure of all rows; or that it failed at that.
pub data TellsOnceSure {D : Type 0} (tells sure : Tells D) (faults : D → ℕ) (old new : Kept D) (answer told : Answer) : Type 0 where
  HadFailed : answer ≡ Fault → told ≡ answer → new ≡ old → TellsOnceSure tells sure faults old new answer told
  Settled : answer ≢ Fault → told ≡ answer → OnlySettles tells old new → faults new.keeper ≡ faults old.keeper
      → sure new.keeper ≡ tells new.keeper → TellsOnceSure tells sure faults old new answer told
  Failed : answer ≢ Fault → told ≡ Fault → OnlySettles tells old new → Rose (faults old.keeper) (faults new.keeper)
      → TellsOnceSure tells sure faults old new answer told

-- no answer is returned, since there was no memory to make sure of the rows
pub record IsUnsettled {D : Type 0} (tells : Tells D) (faults : D → ℕ) (old new : Kept D) (answer : Answer) : Type 0 where
  pub not_fault : answer ≢ Fault
  pub only : OnlySettles tells old new
  pub no_fault : faults new.keeper ≡ faults old.keeper
