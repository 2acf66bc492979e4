use Rattle.ipam_plain.proofs.Leaving.{collect_leaves}
use Rattle.ipam_plain.proofs.alone.a_collection_alone_leaves_what_is_outside_the_scope_or_listed.Goals as goal

pub returns : goal.returns
returns c = collect_leaves
