use Rattle.ipam_text_laws.proofs.EntriesTold.{calls_agree}
use Rattle.ipam_text_laws.proofs.journal_lines.the_line_of_an_entry_tells_what_happened.Goals as goal

pub returns-clause-call : goal.returns-clause-call
returns-clause-call c = calls_agree
