use Rattle.ipam_plain.proofs.Readying.{ready_adds}
use Rattle.ipam_plain.proofs.alone.a_probe_alone_is_ready_where_an_add_alone_gives_addresses.Goals as goal

pub returns : goal.returns
returns c = ready_adds
