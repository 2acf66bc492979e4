use Rattle.std.proofs.Common.{sym, ◌∙◌}
use Rattle.ipam_operator.proofs.Counted.{may_told}
use Rattle.ipam_operator.proofs.datastore.may_load.Goals as goal

pub returns-clause-sound : goal.returns-clause-sound
returns-clause-sound c = λ so. (may_told c.args.revision c.args.found.now c.args.store.now.store c.requires (sym c.is_allowed.ensures ∙ so)).0

pub returns-clause-room : goal.returns-clause-room
returns-clause-room c = λ so. (may_told c.args.revision c.args.found.now c.args.store.now.store c.requires (sym c.is_allowed.ensures ∙ so)).1
