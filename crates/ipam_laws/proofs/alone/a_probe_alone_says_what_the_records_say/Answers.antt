use Rattle.ipam_laws.proofs.AloneLooks.{probe_alone}
use Rattle.ipam_laws.proofs.alone.a_probe_alone_says_what_the_records_say.Goals as goal

pub returns : goal.returns
returns c = probe_alone
