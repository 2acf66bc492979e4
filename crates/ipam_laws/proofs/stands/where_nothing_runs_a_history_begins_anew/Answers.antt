use Rattle.ipam_laws.proofs.StandsFor.{begins_anew}
use Rattle.ipam_laws.proofs.stands.where_nothing_runs_a_history_begins_anew.Goals as goal

pub returns : goal.returns
returns c = begins_anew
