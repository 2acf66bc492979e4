-- What is to come of a link.
use Rattle.std.proofs.Common.{◌≡◌, ℕ, List, [], Option, ap, ◌∙◌, subst, Result}
use Rattle.std.specs.Io.KnownBytes.{prepend_known}
use Rattle.ipam_commands.specs.declared.audit_report.Report.{Report}
use Rattle.ipam_operator.specs.declared.asking.AskFault.{AskFault}
use Rattle.ipam_operator.specs.Asking.{Wire}
use Rattle.ipam_operator.proofs.Wires.{wire, known-nil}
use Rattle.ipam_operator.specs.Looking.{LooksTwice}

-- where nothing is held yet, what is to come is what the link has left
pub looks-anew : (came : Result Report AskFault) (held : List ℕ) → held ≡ []
    → (sent : Option (List ℕ)) (send_faults : ℕ) (left : Option (List ℕ)) (read_faults : ℕ) (new : Wire)
    → LooksTwice came (wire sent send_faults (prepend_known held left) read_faults) new
    → LooksTwice came (wire sent send_faults left read_faults) new
looks-anew came held none sent send_faults left read_faults new looks =
    subst (λ (w : Wire). LooksTwice came w new)
    (ap (λ (h : List ℕ). wire sent send_faults (prepend_known h left) read_faults) none
    ∙ ap (λ (w : Option (List ℕ)). wire sent send_faults w read_faults) (known-nil left))
    looks
