use Rattle.ipam_laws.proofs.AloneProbe.{probe_tells}
use Rattle.ipam_laws.proofs.alone.a_probe_alone_tells_of_an_add_alone.Goals as goal

pub returns : goal.returns
returns c = probe_tells
