use Rattle.ipam_store.proofs.Grants.{IsGranted-can}
use Rattle.ipam_store.proofs.laws.what_can_be_written_is_granted.Goals as goal

pub returns : goal.returns
returns c = IsGranted-can
