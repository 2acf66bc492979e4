use Rattle.ipam_laws.proofs.QueueHistory.{given_again_late}
use Rattle.ipam_laws.proofs.blocks.an_address_is_given_again_as_late_as_can_be.Goals as goal

pub returns : goal.returns
returns c = given_again_late
