use Rattle.std.proofs.Common.{◌≡◌, map, take}
use Rattle.serde_json.specs.View.{view}
use Rattle.ipam_answer_text.specs.Answers.{item_data}
use Rattle.ipam_answer_text.proofs.parts.items_value.Given as goal

abbrev pub invariant-loop-item : goal.invariant-loop-item
invariant-loop-item l = map view l.list.items ≡ map item_data (take l.item-index l.items)
