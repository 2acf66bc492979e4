use Rattle.std.proofs.Common.{◌≡◌, map, take}
use Rattle.serde_json.specs.View.{view}
use Rattle.ipam_answer_text.specs.Answers.{scan_data}
use Rattle.ipam_answer_text.proofs.parts.ready_value.Given as goal

abbrev pub invariant-loop-scan : goal.invariant-loop-scan
invariant-loop-scan l = map view l.list.items ≡ map scan_data (take l.scan-index l.scans)
