use Rattle.std.proofs.Common.{◌≡◌, drop, map}
use Rattle.serde_json.specs.View.{view}
use Rattle.ipam_block_text.specs.Reading.{each}
use Rattle.ipam_block_text.specs.Reading.{attributes_in}
use Rattle.ipam_block_text.proofs.Each.{onto}
use Rattle.ipam_block_text.proofs.form.each_attributes.Given as goal

abbrev pub invariant-loop-item : goal.invariant-loop-item
invariant-loop-item l = onto l.all.items (each attributes_in (map view (drop l.item-index l.items))) ≡ each attributes_in (map view l.items)
