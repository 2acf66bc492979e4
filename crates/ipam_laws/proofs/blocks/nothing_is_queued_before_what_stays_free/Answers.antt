use Rattle.ipam_laws.proofs.QueueHistory.{none_comes_ahead}
use Rattle.ipam_laws.proofs.blocks.nothing_is_queued_before_what_stays_free.Goals as goal

pub returns : goal.returns
returns c = none_comes_ahead
