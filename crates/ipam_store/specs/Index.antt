-- How the lists of blocks are kept.
use Rattle.std.specs.Prelude.{◌-◌, min}
use Rattle.std.specs.Vec.{vec_len, vec_capacity}
use Rattle.ipam_store.specs.CidrLists.{CidrsAscend}
use Rattle.ipam_store.specs.Indexed.{Indexed}
use Rattle.ipam_store.specs.declared.index.BlockIndex.TheInside.{Inside}

abbrev pub indexed_in : Inside → Indexed
indexed_in a = record {
  owned = a.owned.lists;
  unowned = a.unowned.items;
  roomy = a.roomy.items;
  spare = min a.owned.spare (min (vec_capacity a.unowned - vec_len a.unowned) (vec_capacity a.roomy - vec_len a.roomy));
}

pub record AreAscending (a : Inside) : Type 0 where
  pub unowned : CidrsAscend a.unowned.items
  pub roomy : CidrsAscend a.roomy.items
