use Rattle.ipam_choice.proofs.ConfirmedLemmas.{has_added}
use Rattle.ipam_choice.proofs.confirmed.Confirmed.add.Goals as goal

pub returns-in-Ok : goal.returns-in-Ok
returns-in-Ok c other = has_added c.args.self.now.cidrs c.insert.new.self c.args.cidr other c.in-Ok.ensures.updates
