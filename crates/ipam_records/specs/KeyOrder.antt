-- The order of keys.
use Rattle.std.specs.Prelude.{ℕ, Bool, true, false, List, [], Option, Some, None}
use Rattle.std.specs.declared.cmp.Ordering.{Ordering}
use Rattle.std.specs.Ordering.{nat_cmp, ordering_then, eq_by_cmp}
use Rattle.std.specs.Option.{option_cmp}
use Rattle.std.specs.Cmp.Lexicographic.{slice_cmp}
use Rattle.ipam_addr.specs.Shape.{CidrValue}
use Rattle.ipam_block.specs.Order.{cidr_cmp}
use Rattle.ipam_records.specs.declared.key.Key.{Key}
use Rattle.ipam_records.specs.declared.key.Key.TheVariants.{Config, Pools, Reservations, Block, Affinity, Handle}
use Rattle.ipam_records.specs.declared.key.Kind.{Kind}
use Rattle.ipam_records.specs.declared.key.Kind.TheVariants as kind

-- where the keys of a kind stand
abbrev pub key_rank : Key → ℕ
key_rank Config = 0
key_rank Pools = 1
key_rank Reservations = 2
key_rank (Block cidr) = 3
key_rank (Affinity node cidr) = 4
key_rank (Handle id) = 5

-- the node or the id in a key
abbrev pub key_name : Key → List ℕ
key_name Config = []
key_name Pools = []
key_name Reservations = []
key_name (Block cidr) = []
key_name (Affinity node cidr) = node
key_name (Handle id) = id

-- the block in a key
abbrev pub key_block : Key → Option CidrValue
key_block Config = None
key_block Pools = None
key_block Reservations = None
key_block (Block cidr) = Some cidr
key_block (Affinity node cidr) = Some cidr
key_block (Handle id) = None

-- by kind, then by the bytes of the node or id, then by the block's family, base and prefix
abbrev pub key_cmp : Key → Key → Ordering
key_cmp k l =
    ordering_then (nat_cmp (key_rank k) (key_rank l))
    (ordering_then (slice_cmp nat_cmp (key_name k) (key_name l)) (option_cmp cidr_cmp (key_block k) (key_block l)))

abbrev pub keys_equal : Key → Key → Bool
keys_equal k l = eq_by_cmp key_cmp k l

-- the key is one of this kind
abbrev pub is_of_kind : Kind → Key → Bool
is_of_kind kind.Block (Block cidr) = true
is_of_kind kind.Affinity (Affinity node cidr) = true
is_of_kind kind.Handle (Handle id) = true
is_of_kind _ _ = false
