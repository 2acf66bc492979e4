use Rattle.std.proofs.Common.{◌≡◌, ◌++◌, take, drop}
use Rattle.std.specs.Prelude.{fold}
use Rattle.serde_json.specs.Data.{no_members}
use Rattle.ipam_block_text.specs.Body.{with_stamp}
use Rattle.ipam_block_text.specs.Stamps.{stamp_members, AreInOrder}
use Rattle.ipam_block_text.proofs.stamps.stamps_of.Given as goal

-- the stamps so far, in order
abbrev pub invariant-loop-allocation : goal.invariant-loop-allocation
invariant-loop-allocation l = record {
  members : stamp_members (l.merged.items ++ drop l.place l.earlier.items) ≡ fold with_stamp no_members (take l.allocation-index l.allocations);
  order : AreInOrder (l.merged.items ++ drop l.place l.earlier.items);
}
