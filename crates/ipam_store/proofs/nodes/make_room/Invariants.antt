use Rattle.std.proofs.Common.{◌≡◌, ℕ, ◌<◌, get_or}
use Rattle.std.specs.Global.{Vec}
use Rattle.std.specs.Vec.{vec_len, vec_capacity}
use Rattle.ipam_addr.specs.Shape.{CidrValue}
use Rattle.ipam_records.specs.BlockLists.{named_lists}
use Rattle.ipam_store.specs.NodeNames.{HasRoom}
use Rattle.ipam_store.proofs.nodes.make_room.Given as goal

abbrev pub invariant-loop-at : goal.invariant-loop-at
invariant-loop-at l = record {
  lists : named_lists l.lists.items ≡ named_lists l.fn.lists.items;
  roomy : (k : ℕ) (d : Vec ℕ × Vec CidrValue) → k < l.at → HasRoom (get_or l.lists.items k d);
  len : vec_len l.lists ≡ vec_len l.fn.lists;
  capacity : vec_capacity l.lists ≡ vec_capacity l.fn.lists;
}
