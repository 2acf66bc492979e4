-- A block is within the limits exactly where the tests of its texts pass.
use Rattle.std.proofs.Common.{◌≡◌, ℕ, ◌^◌, ◌<◌, true, ◌&&◌, List, length, get_or, Option, Some, None, refl, arith}
use Rattle.std.specs.Prelude.{All, nat_le}
use Rattle.std.specs.List.{list_all}
use Rattle.std.proofs.lemmas.Bool.{and_parts, and_from, leb-true, le-leb}
use Rattle.std.proofs.lemmas.List.Elements.{All-weaker}
use Rattle.std.proofs.lemmas.List.Sums.{AllPass-from_list_all, list_all-from_AllPass}
use Rattle.ipam_addr.specs.Names.{is_handle_text}
use Rattle.ipam_block.specs.declared.allocation.Attributes.{Attributes}
use Rattle.ipam_block.specs.declared.limits.TheConstants.{PAIRS_MAX, KEY_BYTES_MAX, VALUE_BYTES_MAX}
use Rattle.ipam_block.specs.Shape.{BlockValue}
use Rattle.ipam_block.specs.Sound.{IsBlock, IsPair, AreAttributes, IsNode, IsBlockRecord}
use Rattle.ipam_block_text.specs.Attributes.{Pair}
use Rattle.ipam_block_text.specs.Limits.{is_small_pair, keys_ascend, are_pairs, are_attributes, is_node_or_none}
use Rattle.ipam_block_text.proofs.PairKeys.{keys_sorted, sorted_keys}

-- a block whose texts and numbers pass the tests
pub record IsLimited (b : BlockValue) : Type 0 where
  pub block : IsBlock b
  pub node : is_node_or_none b.node ≡ true
  pub attributes : All (λ a. are_attributes a.attributes ≡ true) b.allocations
  pub sequence : b.sequence < 2 ^ 64

pair_there : (p : Pair) → IsPair p → is_small_pair p ≡ true
pair_there p h =
    and_from _ _ (and_from _ _ (le-leb 1 (length p.0) (omega (arith, h.key_some))) (le-leb _ _ h.key_small)) (le-leb _ _ h.value_small)

pair_back : (p : Pair) → is_small_pair p ≡ true → IsPair p
pair_back p h =
    let parts = and_parts (nat_le 1 (length p.0) && nat_le (length p.0) KEY_BYTES_MAX) (nat_le (length p.1) VALUE_BYTES_MAX) h in
    let key = and_parts (nat_le 1 (length p.0)) (nat_le (length p.0) KEY_BYTES_MAX) parts.0 in
    let some = leb-true 1 (length p.0) key.0 in
    record {
      key_some = omega arith;
      key_small = leb-true _ _ key.1;
      value_small = leb-true _ _ parts.1;
    }

pub attributes_there : (a : Attributes) → AreAttributes a → are_attributes a ≡ true
attributes_there a h =
    let small = list_all-from_AllPass is_small_pair a.secondary (All-weaker IsPair (λ p. is_small_pair p ≡ true) pair_there a.secondary h.pairs) in
    and_from _ _ h.id (and_from _ _ (and_from _ _ (le-leb _ _ h.few) small) (sorted_keys a.secondary h.ascending))

pub attributes_back : (a : Attributes) → are_attributes a ≡ true → AreAttributes a
attributes_back a h =
    let parts = and_parts (is_handle_text a.handle) (are_pairs a.secondary) h in
    let pairs = and_parts (nat_le (length a.secondary) PAIRS_MAX && list_all is_small_pair a.secondary) (keys_ascend a.secondary) parts.1 in
    let few = and_parts (nat_le (length a.secondary) PAIRS_MAX) (list_all is_small_pair a.secondary) pairs.0 in
    record {
      id = parts.0;
      few = leb-true _ _ few.0;
      pairs = All-weaker (λ p. is_small_pair p ≡ true) IsPair pair_back a.secondary (AllPass-from_list_all is_small_pair a.secondary few.1);
      ascending = keys_sorted a.secondary pairs.1;
    }

pub node_there : (node : Option (List ℕ)) → IsNode node → is_node_or_none node ≡ true
node_there None h = refl
node_there (Some name) h = h

pub node_back : (node : Option (List ℕ)) → is_node_or_none node ≡ true → IsNode node
node_back None h = tt
node_back (Some name) h = h

pub limited : (b : BlockValue) → IsBlockRecord b → IsLimited b
limited b h = record {
  block = h.block;
  node = node_there b.node h.node;
  attributes = λ k d within. attributes_there (get_or b.allocations k d).attributes (h.attributes k d within);
  sequence = h.counted;
}

pub kept : (b : BlockValue) → IsLimited b → IsBlockRecord b
kept b h = record {
  block = h.block;
  node = node_back b.node h.node;
  attributes = λ k d within. attributes_back (get_or b.allocations k d).attributes (h.attributes k d within);
  counted = h.sequence;
}
