use Rattle.ipam_json.proofs.ReadsBack.{read-compact_text}
use Rattle.ipam_json.proofs.laws.canonical_json_reads_back.Goals as goal

pub returns : goal.returns
returns c = read-compact_text
