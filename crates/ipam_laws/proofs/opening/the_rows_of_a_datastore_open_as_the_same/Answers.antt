use Rattle.ipam_laws.proofs.Openings.{opens_the_same}
use Rattle.ipam_laws.proofs.opening.the_rows_of_a_datastore_open_as_the_same.Goals as goal

pub returns : goal.returns
returns c = opens_the_same
