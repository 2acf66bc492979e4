use Rattle.ipam_json.proofs.PathLaws.{at_path-name, at_path-first, index_of-decimal, has_dot-decimal}
use Rattle.ipam_json.proofs.laws.paths_are_followed_name_by_name.Goals as goal

pub returns : goal.returns
returns c = record { one = at_path-name; more = at_path-first; index = index_of-decimal; plain_index = has_dot-decimal }
