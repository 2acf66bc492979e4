-- How workers are engaged.
use Rattle.std.specs.Prelude.{◌≡◌, ◌⊎◌, ℕ, ◌+◌, ◌≤◌, Bool, true, false}
use Rattle.turn_lock.specs.declared.limits.TheConstants.{SPLIT_TURNS}
use Rattle.ipam_io.specs.Counts.{Rose}
use Rattle.ipam_model.specs.declared.limits.TheConstants.{SLOTS}
use Rattle.ipam_shared.specs.PassValue.{PassValue}

-- a worker has a thread more, or the count of faults rose
abbrev pub IsHired : Bool → (threads threads' faults faults' : ℕ) → Type 0
IsHired true threads threads' faults faults' = (threads' ≡ threads + 1) × (faults' ≡ faults)
IsHired false threads threads' faults faults' = (threads' ≡ threads) × Rose faults faults'

-- no other pass can be split off
abbrev pub IsSpent : PassValue → Type 0
IsSpent pass = (pass.left ≤ SPLIT_TURNS) ⊎ (pass.made ≡ SLOTS)

-- all of so many workers have a thread, or fewer, since a thread could not be made or no pass was left
pub record IsEngaged (workers h h' faults faults' : ℕ) (pass : PassValue) : Type 0 where
  pub count : ℕ
  pub at_most : count ≤ workers
  pub hired : h' ≡ h + count
  pub all : (count ≡ workers) ⊎ Rose faults faults' ⊎ IsSpent pass
