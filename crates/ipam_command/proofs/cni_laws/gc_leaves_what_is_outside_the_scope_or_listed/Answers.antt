use Rattle.ipam_command.proofs.Spared.{gc_leaves}
use Rattle.ipam_command.proofs.cni_laws.gc_leaves_what_is_outside_the_scope_or_listed.Goals as goal

pub returns : goal.returns
returns c = gc_leaves
