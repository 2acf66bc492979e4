-- How the blocks of each node are kept.
use Rattle.std.specs.Prelude.{◌≡◌, ℕ, Bool, true, ◌&&◌, nat_lt, List, All, Option, is_some, if◌then◌else◌}
use Rattle.std.specs.Global.{Vec}
use Rattle.std.specs.Vec.{vec_len, vec_capacity}
use Rattle.ipam_addr.specs.Shape.{CidrValue}
use Rattle.ipam_records.specs.BlockLists.{named_lists}
use Rattle.ipam_store.specs.Named.{Named}
use Rattle.ipam_store.specs.NodeNames.{AreNodeLists, HasRoom, IsNext}
use Rattle.ipam_store.specs.declared.nodes.NodeLists.TheInside.{Inside}

-- how many further blocks take no memory
abbrev pub spare_of : Bool → Bool → Bool → ℕ
spare_of next room roomy = if next && (room && roomy) then 1 else 0

abbrev pub named_in : Inside → Named
named_in a = record {
  lists = named_lists a.lists.items;
  spare = spare_of (is_some a.next) (nat_lt (vec_len a.lists) (vec_capacity a.lists)) a.all_roomy;
}

pub record AreKept (owned : List (Vec ℕ × Vec CidrValue)) (held : Option (Vec ℕ × Vec CidrValue)) (all_roomy : Bool) : Type 0 where
  pub lists : AreNodeLists (named_lists owned)
  pub next : IsNext held
  pub roomy : all_roomy ≡ true → All HasRoom owned

abbrev pub is_kept_in : Inside → Type 0
is_kept_in a = AreKept a.lists.items a.next a.all_roomy
