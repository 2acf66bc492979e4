use Rattle.ipam_json.proofs.ReadsBack.{has_float-IsRegular}
use Rattle.ipam_json.proofs.laws.canonical_json_has_no_float.Goals as goal

pub returns : goal.returns
returns c d h = has_float-IsRegular d h.regular
