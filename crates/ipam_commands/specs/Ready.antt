-- A kept cluster that is ready for the next request.
use Rattle.std.specs.Prelude.{◌≡◌, [], None}
use Rattle.ipam_model.specs.declared.request.Admin.{Admin}
use Rattle.ipam_model.specs.declared.request.Admin.TheVariants as change
use Rattle.ipam_model.specs.SoundRequest.{IsSoundChange}
use Rattle.ipam_resources.specs.declared.resource.Resource.{Resource}
use Rattle.ipam_shared.specs.declared.kept.Kept.{Kept}
use Rattle.ipam_shared.specs.Kept.{KeptFor, Tells}
use Rattle.ipam_shared.specs.Solo.{NothingRuns, base_of}
use Rattle.ipam_commands.specs.declared.step.Step.{Step}
use Rattle.ipam_commands.specs.declared.step.Step.TheVariants.{Applied, Ended}

-- nothing runs, nothing is in doubt, and the cluster is kept as if it had been opened so
pub record IsReady {D : Type 0} (tells : Tells D) (kept : Kept D) : Type 0 where
  pub idle : NothingRuns kept
  pub sure : kept.doubt ≡ None
  pub kept_for : KeptFor tells kept (base_of kept) []

-- the changes that a document may ask
abbrev pub IsOfDocument : Admin → Type 0
IsOfDocument (change.Pool pool) = Unit {0}
IsOfDocument (change.Disable name disabled) = ⊥
IsOfDocument (change.Reserve reservation) = Unit {0}
IsOfDocument (change.Unreserve name) = ⊥
IsOfDocument (change.Config config) = Unit {0}

-- the resource may be applied
pub record IsFit (one : Resource) : Type 0 where
  pub sound : IsSoundChange one.change
  pub of_document : IsOfDocument one.change

-- a fact where the resource was applied
abbrev pub OnApplied : Step → Type 0 → Type 0
OnApplied Applied p = p
OnApplied (Ended end) p = Unit {0}
