use Rattle.ipam_laws.proofs.OpensRows.{opens_law}
use Rattle.ipam_laws.proofs.opening.rows_that_nothing_breaks_open.Goals as goal

pub returns : goal.returns
returns c = opens_law
