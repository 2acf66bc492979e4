use Rattle.ipam_plain.proofs.Leaving.{del_leaves}
use Rattle.ipam_plain.proofs.alone.a_del_alone_leaves_the_owners_of_other_handles.Goals as goal

pub returns : goal.returns
returns c = del_leaves
