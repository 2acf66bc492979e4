use Rattle.ipam_json.proofs.Prefixes.{compact_text-prefix}
use Rattle.ipam_json.proofs.laws.canonical_json_is_prefix_free.Goals as goal

pub returns : goal.returns
returns c = compact_text-prefix
