use Rattle.std.proofs.Common.{◌≡◌, map, take}
use Rattle.serde_json.specs.View.{view}
use Rattle.ipam_answer_text.specs.Answers.{given_data}
use Rattle.ipam_answer_text.proofs.parts.added_value.Given as goal

abbrev pub invariant-loop-given : goal.invariant-loop-given
invariant-loop-given l = map view l.list.items ≡ map given_data (take l.given-index l.givens)
