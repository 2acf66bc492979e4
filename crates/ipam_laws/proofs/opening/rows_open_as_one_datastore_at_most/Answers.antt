use Rattle.ipam_laws.proofs.Openings.{opens_as_one}
use Rattle.ipam_laws.proofs.opening.rows_open_as_one_datastore_at_most.Goals as goal

pub returns : goal.returns
returns c = opens_as_one
