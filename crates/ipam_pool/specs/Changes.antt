-- What a table refuses, and what its changes make of it.
use Rattle.std.specs.Prelude.{ℕ, Bool, not, ◌&&◌, nat_lt, nat_le, List, length, map, position, bytes_eq, Option, Some, None, option_map, if◌then◌else◌}
use Rattle.std.specs.List.{list_any}
use Rattle.std.specs.Option.{option_or}
use Rattle.ipam_addr.specs.declared.address.Family.{Family}
use Rattle.ipam_addr.specs.declared.address.Family.TheVariants.{V4, V6}
use Rattle.ipam_addr.specs.Shape.{CidrValue}
use Rattle.ipam_addr.specs.Holding.{cidrs_overlap}
use Rattle.ipam_select.specs.Formula.{Formula}
use Rattle.ipam_pool.specs.declared.table.TheConstants.{MOST_POOLS}
use Rattle.ipam_pool.specs.declared.pools.Mode.{Mode}
use Rattle.ipam_pool.specs.declared.pools.Pool.{Pool}
use Rattle.ipam_pool.specs.declared.pools.PoolRefusal.{PoolRefusal}
use Rattle.ipam_pool.specs.declared.pools.PoolRefusal.TheVariants.{NameTaken, Overlap, Size, Prefix, TooMany}

abbrev pub has_name : List ℕ → Pool → Bool
has_name name p = bytes_eq p.name name

-- the first pool that shares an address with the CIDR
abbrev pub overlap_place : List Pool → CidrValue → Option ℕ
overlap_place pools r = position (λ p. cidrs_overlap p.cidr r) pools

-- `AllowsSize`, as a test
abbrev pub is_size_allowed : Family → ℕ → Bool
is_size_allowed V4 size = nat_le 20 size && nat_le size 32
is_size_allowed V6 size = nat_le 116 size && nat_le size 128

-- the refusal, where the condition holds
abbrev pub refusal_if : Bool → PoolRefusal → Option PoolRefusal
refusal_if condition refusal = if condition then Some refusal else None

-- what refuses the pool's CIDR and size, by the first that does
abbrev pub slots_refusal : Pool → Option PoolRefusal
slots_refusal p =
    option_or (refusal_if (not (is_size_allowed p.cidr.family p.size)) Size)
    (refusal_if (nat_lt p.size p.cidr.prefix) Prefix)

-- what refuses the pool beside those that are there, by the first that does
abbrev pub refusal_of : List Pool → Pool → Option PoolRefusal
refusal_of pools p =
    option_or (refusal_if (list_any (has_name p.name) pools) NameTaken)
    (option_or (option_map Overlap (overlap_place pools p.cidr))
    (option_or (slots_refusal p) (refusal_if (nat_le MOST_POOLS (length pools)) TooMany)))

-- the pool, disabled or not where it has the name
abbrev pub with_named_disabled : List ℕ → Bool → Pool → Pool
with_named_disabled name disabled p =
    record p { disabled = if has_name name p then disabled else p.disabled }

-- the pools, of which that of the name is disabled, or is not
abbrev pub with_disabled : List ℕ → Bool → List Pool → List Pool
with_disabled name disabled pools = map (with_named_disabled name disabled) pools

-- the pool, with these rules where it has the name
abbrev pub with_named_rules : List ℕ → Bool → Mode → Formula → Pool → Pool
with_named_rules name disabled mode selector p =
    record p {
      disabled = if has_name name p then disabled else p.disabled;
      mode = if has_name name p then mode else p.mode;
      selector = if has_name name p then selector else p.selector;
    }

-- the pools, of which that of the name has these rules
abbrev pub with_rules : List ℕ → Bool → Mode → Formula → List Pool → List Pool
with_rules name disabled mode selector pools = map (with_named_rules name disabled mode selector) pools
