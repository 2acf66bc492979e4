use Rattle.ipam_command.proofs.Spared.{status_adds}
use Rattle.ipam_command.proofs.cni_laws.status_succeeds_where_the_add_gives_addresses.Goals as goal

pub returns : goal.returns
returns c = status_adds
