use Rattle.ipam_resources.proofs.DocumentParts.{fault_no_memory}
use Rattle.ipam_resources.proofs.document.read_resources.Goals as goal

pub returns-in-Ok-Err-clause-memory : goal.returns-in-Ok-Err-clause-memory
returns-in-Ok-Err-clause-memory c =
    λ none. fault_no_memory c.args.document.now c.in-Ok-Err.fault (rw c.in-Ok-Err.field-0-is at c.in-Ok-Err.ensures.read) none
