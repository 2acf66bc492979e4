-- The names of states are read back.
use Rattle.std.proofs.Common.{◌≡◌, ◌≢◌, ℕ, List, Option, Some, None, IfNone, refl, ap, ◌∙◌}
use Rattle.ipam_block.specs.declared.state.State.{State}
use Rattle.ipam_block.specs.declared.state.State.TheVariants.{Pending, Confirmed, PendingDeletion}
use Rattle.ipam_block.specs.State.{state_text, state_of}

state_of-state_text : (s : State) → state_of (state_text s) ≡ Some s
state_of-state_text Pending = refl
state_of-state_text Confirmed = refl
state_of-state_text PendingDeletion = refl

-- a text that is read as no state is no state's name
pub unread-unnamed : (text : List ℕ) (r : Option State) → r ≡ state_of text → IfNone r ((s : State) → text ≢ state_text s)
unread-unnamed text (Some s) e = tt
unread-unnamed text None e = λ s named.
    let read : None ≡ Some s = e ∙ ap state_of named ∙ state_of-state_text s in
    cc read
