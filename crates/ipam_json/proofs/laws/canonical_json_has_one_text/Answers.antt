use Rattle.ipam_json.proofs.ReadsBack.{compact_text-injective}
use Rattle.ipam_json.proofs.laws.canonical_json_has_one_text.Goals as goal

pub returns : goal.returns
returns c = compact_text-injective
