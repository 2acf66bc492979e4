-- What is to come of a link.
use Rattle.std.proofs.Common.{◌≡◌, ℕ, List, [], Option, ap, ◌∙◌, subst, Result}
use Rattle.std.specs.Io.KnownBytes.{prepend_known}
use Rattle.ipam_operator.specs.declared.asking.AskFault.{AskFault}
use Rattle.ipam_operator.specs.Asking.{Wire}
use Rattle.ipam_operator.proofs.Wires.{wire, known-nil}
use Rattle.ipam_records.specs.declared.call.Row.{Row}
use Rattle.ipam_words.specs.declared.kind.RowKind.{RowKind}
use Rattle.ipam_operator.specs.Rows.{AsksRows}

-- where nothing is held yet, what is to come is what the link has left
pub rows-anew : (kinds : List RowKind) (rows : List Row) (came : Result (List Row) AskFault) (held : List ℕ) → held ≡ []
    → (sent : Option (List ℕ)) (send_faults : ℕ) (left : Option (List ℕ)) (read_faults : ℕ) (new : Wire)
    → AsksRows kinds rows came (wire sent send_faults (prepend_known held left) read_faults) new
    → AsksRows kinds rows came (wire sent send_faults left read_faults) new
rows-anew kinds rows came held none sent send_faults left read_faults new asks =
    subst (λ (w : Wire). AsksRows kinds rows came w new)
    (ap (λ (h : List ℕ). wire sent send_faults (prepend_known h left) read_faults) none
    ∙ ap (λ (w : Option (List ℕ)). wire sent send_faults w read_faults) (known-nil left))
    asks
