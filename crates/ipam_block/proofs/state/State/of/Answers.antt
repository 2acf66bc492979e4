use Rattle.std.proofs.Common.{rules}
use Rattle.ipam_block.proofs.States.{unread-unnamed}
use Rattle.ipam_block.proofs.state.State.of.Goals as goal

pub returns-clause-value : goal.returns-clause-value
returns-clause-value c = search rules

pub returns-clause-none : goal.returns-clause-none
returns-clause-none c = unread-unnamed _ _ (returns-clause-value c)
