-- What one turn that has no entry comes to.
use Rattle.std.proofs.Common.{◌≡◌, ◌<◌, ◌≤◌, ◌+◌, List, [], Option, Some, None, Result, Ok, Err, refl}
use Rattle.std.specs.Prelude.{OnErr}
use Rattle.ipam_shared.specs.PassValue.{PassValue}
use Rattle.ipam_shared.specs.Passes.{IsSamePass, IsTold}
use Rattle.ipam_shared.specs.Turning.{SeesNext}
use Rattle.ipam_serve.specs.declared.ran.Broken.{Broken}
use Rattle.ipam_serve.specs.declared.ran.Broken.TheVariants.{Halted, Worn, Memory}
use Rattle.ipam_serve.specs.Turns.{TakesLook, TakesOne}
use Rattle.ipam_serve.proofs.Slots.{untold-runs}
use Rattle.ipam_serve.proofs.Turning.{took-none, took-rest}

-- too few turns were left
pub worn-one : {T : Type 0} (pass : PassValue) → pass.left < 2 → TakesOne {T = T} (Err Worn) pass pass
worn-one pass few = record { took = took-rest pass; one = tt; runs = refl; worn = (refl, few); not_halted = tt }

pub worn-look : {T : Type 0} (pass : PassValue) → pass.left < 2 → TakesLook {T = T} None pass pass
worn-look pass few = record { took = took-rest pass; one = tt; runs = refl; worn = (refl, few) }

module _ (old new : PassValue) (same : IsSamePass old new) (sees : SeesNext old [] new) (knows : IsTold old new) (left : new.left + 1 ≡ old.left) (enough : 2 ≤ old.left) where
  pub told-look : {T : Type 0} (value : T) → TakesLook (Some value) old new
  told-look value = record { took = took-none old new same sees knows left enough; one = left; runs = untold-runs old new same sees; worn = tt }

  pub told-one : {T : Type 0} (value : T) → TakesOne (Ok value) old new
  told-one value = record { took = took-none old new same sees knows left enough; one = left; runs = untold-runs old new same sees; worn = tt; not_halted = tt }

  pub memory-one : {T : Type 0} → TakesOne {T = T} (Err Memory) old new
  memory-one = record { took = took-none old new same sees knows left enough; one = tt; runs = untold-runs old new same sees; worn = tt; not_halted = tt }

  -- told or not, where only memory can be wanting
  pub any-one : {T : Type 0} (r : Result T Broken) → OnErr r (r ≡ Err Memory) → TakesOne r old new
  any-one (Ok value) memory = told-one value
  any-one (Err Halted) memory = absurd (cc memory)
  any-one (Err Worn) memory = absurd (cc memory)
  any-one (Err Memory) memory = memory-one

module _ (old new : PassValue) where
  pub seen-one : {S T : Type 0} (told : S) (value : T) → TakesLook (Some told) old new → TakesOne (Ok value) old new
  seen-one told value l = record { took = l.took; one = l.one; runs = l.runs; worn = tt; not_halted = tt }

  pub unseen-one : {S T : Type 0} (told : S) → TakesLook (Some told) old new → TakesOne {T = T} (Err Memory) old new
  unseen-one told l = record { took = l.took; one = tt; runs = l.runs; worn = tt; not_halted = tt }

  pub spent-one : {S T : Type 0} → TakesLook {T = S} None old new → TakesOne {T = T} (Err Worn) old new
  spent-one l = record { took = l.took; one = tt; runs = l.runs; worn = l.worn; not_halted = tt }
