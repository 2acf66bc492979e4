-- What a word writes.
use Rattle.std.proofs.Common.{◌≡◌, ℕ, List, Option, ap, ◌∙◌, Result, Err}
use Rattle.ipam_operator.specs.declared.asking.AskFault.{AskFault}
use Rattle.ipam_operator.specs.declared.asking.AskFault.TheVariants.{Link, Reply, Memory}
use Rattle.ipam_operator.specs.declared.end.End.{End}
use Rattle.ipam_operator.specs.Applying.{TakesMemory}
use Rattle.ipam_operator.specs.Telling.{Says, Said, Untold}

-- a fault is told as what the word came to
pub came_says : {A : Type 0} (fault : AskFault) (came : Result A AskFault) → came ≡ Err fault
    → (old new : Option (List ℕ)) (faults faults' : ℕ) (text : List ℕ) (own last : End)
    → Says (fault ≡ Memory) old new faults faults' text own last → Says (came ≡ Err Memory) old new faults faults' text own last
came_says fault came is old new faults faults' text own last (Said end writes) = Said end writes
came_says fault came is old new faults faults' text own last (Untold none bytes count) = Untold (is ∙ ap Err none) bytes count

-- and so where want of memory may come in more cases
pub weaker_says : {memory other : Type 0} → (memory → other) → (old new : Option (List ℕ)) (faults faults' : ℕ) (text : List ℕ) (own last : End)
    → Says memory old new faults faults' text own last → Says other old new faults faults' text own last
weaker_says weaker old new faults faults' text own last (Said end writes) = Said end writes
weaker_says weaker old new faults faults' text own last (Untold none bytes count) = Untold (weaker none) bytes count

-- the fault of what was asked is told as what came of a resource
pub fault_says : (fault : AskFault) (old new : Option (List ℕ)) (faults faults' : ℕ) (text : List ℕ) (own last : End)
    → Says (fault ≡ Memory) old new faults faults' text own last → Says (TakesMemory (Err fault)) old new faults faults' text own last
fault_says Link old new faults faults' text own last says = weaker_says (λ e. absurd (cc e)) old new faults faults' text own last says
fault_says Reply old new faults faults' text own last says = weaker_says (λ e. absurd (cc e)) old new faults faults' text own last says
fault_says Memory old new faults faults' text own last says = weaker_says (λ e. tt) old new faults faults' text own last says
