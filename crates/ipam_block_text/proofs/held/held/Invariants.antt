use Rattle.std.proofs.Common.{◌≡◌, drop}
use Rattle.serde_json.specs.View.{view}
use Rattle.ipam_block_text.specs.Reading.{held_from}
use Rattle.ipam_block_text.proofs.Each.{onto}
use Rattle.ipam_block_text.proofs.held.held.Given as goal

abbrev pub invariant-loop-place : goal.invariant-loop-place
invariant-loop-place l = record {
  found : onto l.held.items (held_from l.attributes (view l.stamps) l.ordinal (drop l.place-index l.places)) ≡ held_from l.attributes (view l.stamps) 0 l.places;
  count : l.ordinal ≡ l.place-index;
}
