use Rattle.ipam_commands.proofs.Refusals.{one_refusal}
use Rattle.ipam_commands.proofs.unreserving.unreserve.Goals as goal

pub returns-clause-one_refusal : goal.returns-clause-one_refusal
returns-clause-one_refusal g c = one_refusal c.args.name.now
