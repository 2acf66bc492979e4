-- Which pools a request may take addresses from.
use Rattle.std.specs.Prelude.{ℕ, Bool, true, false, not, ◌&&◌, ◌||◌, List, [], ◌∷◌, Option, Result, Ok, Err, bytes_eq, position}
use Rattle.std.specs.List.{list_any, find}
use Rattle.std.specs.BTreeMap.{is_at}
use Rattle.ipam_addr.specs.declared.address.Family.{Family}
use Rattle.ipam_addr.specs.declared.address.Family.TheVariants.{V4, V6}
use Rattle.ipam_addr.specs.declared.cidrs.AddrFault.{AddrFault}
use Rattle.ipam_addr.specs.Shape.{AddrValue, CidrValue}
use Rattle.ipam_addr.specs.Holding.{is_same_family, holds_address}
use Rattle.ipam_addr.specs.Text.{cidr_reading}
use Rattle.ipam_block.specs.Order.{cidr_cmp}
use Rattle.ipam_pool.specs.declared.pools.Mode.{Mode}
use Rattle.ipam_pool.specs.declared.pools.Mode.TheVariants.{Automatic, Manual}
use Rattle.ipam_pool.specs.declared.pools.Pool.{Pool}
use Rattle.ipam_select.specs.Admitting.{Labels, admits}

-- what a request says about one family: the node that it is for with its labels, the pools that it
-- names, and whether it asks for one address
pub record Asked : Type 0 where
  pub node : List ℕ
  pub family : Family
  pub names : List (List ℕ)
  pub labels : Labels
  pub one_address : Bool

-- the wanted families, IPv4 first
abbrev pub families_if : (ipv4 ipv6 : Bool) → List Family
families_if true true = V4 ∷ V6 ∷ []
families_if true false = V4 ∷ []
families_if false true = V6 ∷ []
families_if false false = []

abbrev pub is_same_cidr : CidrValue → CidrValue → Bool
is_same_cidr r s = is_at (cidr_cmp r) s

-- whether the text is a CIDR, in whichever spelling, and the pool's
abbrev pub is_cidr_read : CidrValue → Result CidrValue AddrFault → Bool
is_cidr_read cidr (Ok read) = is_same_cidr cidr read
is_cidr_read cidr (Err fault) = false

-- whether the name is the pool's, or the text of its CIDR
abbrev pub is_name_of : Pool → List ℕ → Bool
is_name_of pool name = bytes_eq pool.name name || is_cidr_read pool.cidr (cidr_reading name)

abbrev pub is_pool_asked : Asked → Pool → Bool
is_pool_asked asked pool = list_any (is_name_of pool) asked.names

-- whether the request names no pool of the family
abbrev pub names_none : Asked → Bool
names_none asked = no_names asked.names
  where
    no_names : List (List ℕ) → Bool
    no_names [] = true
    no_names (name ∷ names) = false

abbrev pub is_automatic : Mode → Bool
is_automatic Automatic = true
is_automatic Manual = false

-- whether the pool is enabled and of the family
abbrev pub is_enabled : Asked → Pool → Bool
is_enabled asked pool = not pool.disabled && is_same_family asked.family pool.cidr.family

-- Whether the request may take addresses from the pool: it is enabled, of the family, admits the
-- node, is named where any is, and a manual one is named or asked for an address of its own.
abbrev pub is_usable : Asked → Pool → Bool
is_usable asked pool =
    is_enabled asked pool && admits pool.selector asked.labels
    && (names_none asked || is_pool_asked asked pool)
    && (is_automatic pool.mode || is_pool_asked asked pool || asked.one_address)

-- whether some enabled pool of the family has the name
abbrev pub is_known : Asked → List Pool → List ℕ → Bool
is_known asked pools name =
    list_any (λ pool. is_enabled asked pool && is_name_of pool name) pools

-- the place of the first name that no enabled pool of the family has
abbrev pub unknown_name : Asked → List Pool → Option ℕ
unknown_name asked pools = position (λ name. not (is_known asked pools name)) asked.names

-- the usable pool that holds the address
abbrev pub usable_pool_of : Asked → AddrValue → List Pool → Option Pool
usable_pool_of asked address =
    find (λ pool. is_usable asked pool && holds_address pool.cidr address)

-- the pool that holds the address, usable or not
abbrev pub pool_of : AddrValue → List Pool → Option Pool
pool_of address = find (λ pool. holds_address pool.cidr address)
