use Rattle.std.proofs.Common.{◌≡◌, length, IsUtf8}
use Rattle.serde_json.specs.View.{view}
use Rattle.ipam_json.specs.Path.{at_path, follow, names_of}
use Rattle.ipam_json.proofs.path.find.Given as goal

abbrev pub invariant-names : goal.invariant-names
invariant-names l = record { same : at_path l.fn.path (view l.fn.value) ≡ follow (names_of l.rest) (view l.target); utf8 : IsUtf8 l.rest }

abbrev pub decreases-names : goal.decreases-names
decreases-names l = length l.rest
