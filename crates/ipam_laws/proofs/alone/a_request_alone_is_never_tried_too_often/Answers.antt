use Rattle.ipam_laws.proofs.AloneAgain.{alone_again}
use Rattle.ipam_laws.proofs.alone.a_request_alone_is_never_tried_too_often.Goals as goal

pub returns : goal.returns
returns c = alone_again
