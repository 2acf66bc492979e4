use Rattle.ipam_plain.proofs.Following.{counts_follow}
use Rattle.ipam_plain.proofs.alone.counts_follow_the_owners_of_a_request_alone.Goals as goal

pub returns : goal.returns
returns c = counts_follow
