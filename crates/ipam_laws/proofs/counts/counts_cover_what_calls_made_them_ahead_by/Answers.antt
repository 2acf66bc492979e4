use Rattle.ipam_laws.proofs.LabelLaws.{credits_law}
use Rattle.ipam_laws.proofs.counts.counts_cover_what_calls_made_them_ahead_by.Goals as goal

pub returns : goal.returns
returns c = credits_law
