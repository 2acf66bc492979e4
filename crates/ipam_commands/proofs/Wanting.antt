-- Want of memory where a text is told comes where the text was not made, or where what it tells of found none.
use Rattle.std.proofs.Common.{◌≡◌, ◌≢◌, ◌⊎◌, inl, inr, Result, Ok, Err}
use Rattle.std.specs.Prelude.{IfOk, OnErr}
use Rattle.ipam_commands.specs.declared.status.Status.{Status}
use Rattle.ipam_commands.specs.declared.status.Status.TheVariants as status

pub line_wants : {L E : Type 0} (wants : Type 0) (line : Result L E) (end : Status) → OnErr line wants → IfOk line (λ made. end ≢ status.NoMemory) → end ≡ status.NoMemory → wants
line_wants wants (Ok made) end found told is = absurd (told is)
line_wants wants (Err none) end found told is = found

-- rows that were not opened: their opening found none, or their line did
pub unopened_wants : (unopened opening telling rest : Type 0) → (unopened → opening) → unopened ⊎ telling → opening ⊎ telling ⊎ rest
unopened_wants unopened opening telling rest why (inl is) = inl (why is)
unopened_wants unopened opening telling rest why (inr none) = inr (inl none)

pub untold_wants : (unopened opening telling : Type 0) → (unopened → opening) → unopened ⊎ telling → opening ⊎ telling
untold_wants unopened opening telling why (inl is) = inl (why is)
untold_wants unopened opening telling why (inr none) = inr none

-- a request that came to nothing: making it found none, or opening, or running, or the line did
pub unmade_wants : (unmade making opening running telling : Type 0) → (unmade → making ⊎ opening ⊎ running) → unmade ⊎ telling → making ⊎ opening ⊎ running ⊎ telling
unmade_wants unmade making opening running telling why (inr none) = inr (inr (inr none))
unmade_wants unmade making opening running telling why (inl is) = go (why is)
  where
    go : making ⊎ opening ⊎ running → making ⊎ opening ⊎ running ⊎ telling
    go (inl none) = inl none
    go (inr (inl none)) = inr (inl none)
    go (inr (inr none)) = inr (inr (inl none))
