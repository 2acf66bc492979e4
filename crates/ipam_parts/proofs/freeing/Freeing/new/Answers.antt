use Rattle.ipam_parts.proofs.FreeingLemmas.{begins}
use Rattle.ipam_parts.proofs.freeing.Freeing.new.Goals as goal

pub returns : goal.returns
returns c = λ id. begins id _ _ _
