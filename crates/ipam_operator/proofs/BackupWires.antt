-- What is to come of a link.
use Rattle.std.proofs.Common.{◌≡◌, ℕ, List, [], Option, ap, ◌∙◌, subst, Result}
use Rattle.std.specs.Io.KnownBytes.{prepend_known}
use Rattle.ipam_operator.specs.declared.asking.AskFault.{AskFault}
use Rattle.ipam_operator.specs.Asking.{Wire}
use Rattle.ipam_operator.proofs.Wires.{wire, known-nil}
use Rattle.ipam_records.specs.declared.call.Row.{Row}
use Rattle.ipam_operator.specs.Moment.{AsksTries}

-- where nothing is held yet, what is to come is what the link has left
pub tries-anew : (left : ℕ) (came : Result (Option (List Row)) AskFault) (held : List ℕ) → held ≡ []
    → (sent : Option (List ℕ)) (send_faults : ℕ) (coming : Option (List ℕ)) (read_faults : ℕ) (new : Wire)
    → AsksTries left came (wire sent send_faults (prepend_known held coming) read_faults) new
    → AsksTries left came (wire sent send_faults coming read_faults) new
tries-anew left came held none sent send_faults coming read_faults new asks =
    subst (λ (w : Wire). AsksTries left came w new)
    (ap (λ (h : List ℕ). wire sent send_faults (prepend_known h coming) read_faults) none
    ∙ ap (λ (w : Option (List ℕ)). wire sent send_faults w read_faults) (known-nil coming))
    asks
