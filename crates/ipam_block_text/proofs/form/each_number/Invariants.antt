use Rattle.std.proofs.Common.{◌≡◌, drop, map}
use Rattle.serde_json.specs.View.{view}
use Rattle.ipam_block_text.specs.Reading.{each}
use Rattle.ipam_json.specs.Path.{as_whole}
use Rattle.ipam_block_text.proofs.Each.{onto}
use Rattle.ipam_block_text.proofs.form.each_number.Given as goal

abbrev pub invariant-loop-item : goal.invariant-loop-item
invariant-loop-item l = onto l.numbers.items (each as_whole (map view (drop l.item-index l.items))) ≡ each as_whole (map view l.items)
