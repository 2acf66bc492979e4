use Rattle.ipam_laws.proofs.RightHistory.{whole_probe}
use Rattle.ipam_laws.proofs.answers.a_probe_is_answered_by_its_scans.Goals as goal

pub returns : goal.returns
returns c = whole_probe
