use Rattle.ipam_laws.proofs.AllRead.{all_read}
use Rattle.ipam_laws.proofs.opening.rows_that_nothing_breaks_are_all_read.Goals as goal

pub returns : goal.returns
returns c = all_read
