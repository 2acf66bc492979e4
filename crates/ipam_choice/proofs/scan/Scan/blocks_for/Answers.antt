use Rattle.ipam_records.proofs.BlockListLemmas.{none-ascends}
use Rattle.ipam_choice.proofs.scan.Scan.blocks_for.Goals as goal

pub returns-in_default-clause-ascending : goal.returns-in_default-clause-ascending
returns-in_default-clause-ascending c = none-ascends
