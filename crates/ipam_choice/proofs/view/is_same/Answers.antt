use Rattle.std.proofs.Common.{rules}
use Rattle.ipam_records.proofs.KeysCompared.{cidrs_compared}
use Rattle.ipam_choice.proofs.view.is_same.Goals as goal

pub returns : goal.returns
returns c = grind (rules, cidrs_compared)
