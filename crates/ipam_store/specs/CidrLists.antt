-- Lists of CIDRs, by family, base and prefix.
use Rattle.std.specs.Prelude.{List, not, filter}
use Rattle.std.specs.BTreeSet.{insert_key}
use Rattle.std.specs.List.Sorted.{IsStrictlySortedBy}
use Rattle.std.specs.Ordering.{is_eq}
use Rattle.ipam_addr.specs.Shape.{CidrValue}
use Rattle.ipam_block.specs.Order.{cidr_cmp}

-- the CIDRs ascend
abbrev pub CidrsAscend : List CidrValue → Type 0
CidrsAscend = IsStrictlySortedBy cidr_cmp

-- the list with this CIDR at its place, unless it is there
abbrev pub with_cidr : CidrValue → List CidrValue → List CidrValue
with_cidr cidr cidrs = insert_key cidr_cmp cidrs cidr

-- the list without this CIDR
abbrev pub without_cidr : CidrValue → List CidrValue → List CidrValue
without_cidr cidr = filter (λ other. not (is_eq (cidr_cmp other cidr)))
