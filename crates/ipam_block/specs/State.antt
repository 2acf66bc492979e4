-- The states of an affinity and their names.
use Rattle.std.specs.Prelude.{ℕ, Bool, true, false, List, Option, Some, None, codes, bytes_eq, if◌then◌else◌}
use Rattle.ipam_block.specs.declared.state.State.{State}
use Rattle.ipam_block.specs.declared.state.State.TheVariants.{Pending, Confirmed, PendingDeletion}

abbrev pub is_confirmed : State → Bool
is_confirmed Confirmed = true
is_confirmed _ = false

-- a state's name
abbrev pub state_text : State → List ℕ
state_text Pending = codes "pending"
state_text Confirmed = codes "confirmed"
state_text PendingDeletion = codes "pendingDeletion"

-- the state of a name
abbrev pub state_of : List ℕ → Option State
state_of text =
    if bytes_eq text (state_text Pending) then Some Pending
    else (if bytes_eq text (state_text Confirmed) then Some Confirmed
    else (if bytes_eq text (state_text PendingDeletion) then Some PendingDeletion else None))
