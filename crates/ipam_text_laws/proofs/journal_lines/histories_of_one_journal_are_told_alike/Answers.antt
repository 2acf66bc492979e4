use Rattle.ipam_text_laws.proofs.Alike.{histories_alike}
use Rattle.ipam_text_laws.proofs.journal_lines.histories_of_one_journal_are_told_alike.Goals as goal

pub returns : goal.returns
returns c = histories_alike
