-- What an audit writes where there is no report.
use Rattle.std.proofs.Common.{◌≡◌, ℕ, List, Option, Err}
use Rattle.ipam_operator.specs.declared.asking.AskFault.{AskFault}
use Rattle.ipam_operator.specs.declared.asking.AskFault.TheVariants.{Link, Reply, Memory}
use Rattle.ipam_operator.specs.declared.end.End.{End}
use Rattle.ipam_operator.specs.Telling.{Says}
use Rattle.ipam_operator.proofs.Saying.{weaker_says}
use Rattle.ipam_operator.specs.RowsTelling.{ReportTakesMemory}

-- the fault of what was asked is told as what came
pub fault_says : (why : AskFault) (old new : Option (List ℕ)) (faults faults' : ℕ) (text : List ℕ) (own last : End)
    → Says (why ≡ Memory) old new faults faults' text own last → Says (ReportTakesMemory (Err why)) old new faults faults' text own last
fault_says Link old new faults faults' text own last says = weaker_says (λ e. absurd (cc e)) old new faults faults' text own last says
fault_says Reply old new faults faults' text own last says = weaker_says (λ e. absurd (cc e)) old new faults faults' text own last says
fault_says Memory old new faults faults' text own last says = weaker_says (λ e. tt) old new faults faults' text own last says
