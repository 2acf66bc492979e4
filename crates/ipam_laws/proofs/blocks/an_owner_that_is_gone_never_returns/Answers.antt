use Rattle.ipam_laws.proofs.NoReturn.{no_return}
use Rattle.ipam_laws.proofs.blocks.an_owner_that_is_gone_never_returns.Goals as goal

pub returns : goal.returns
returns c = no_return
