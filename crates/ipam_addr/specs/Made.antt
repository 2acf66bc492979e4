-- The CIDR that an address and a prefix make.
use Rattle.std.specs.Prelude.{ℕ, ◌%◌, Result, Ok, Err, List, codes, ◌==◌, nat_lt, if◌then◌else◌}
use Rattle.ipam_addr.specs.declared.cidrs.AddrFault.{AddrFault}
use Rattle.ipam_addr.specs.declared.cidrs.AddrFault.TheVariants.{Text, Prefix, HostBits}
use Rattle.ipam_addr.specs.Shape.{AddrValue, CidrValue}
use Rattle.ipam_addr.specs.Width.{width, size_of}

-- the CIDR of these fields
abbrev pub cidr_at_prefix : AddrValue → ℕ → CidrValue
cidr_at_prefix a prefix = record { family = a.family; base = a.number; prefix = prefix }

-- the CIDR, or else the first fault: a prefix longer than an address, or a bit after the prefix
abbrev pub made_cidr : AddrValue → ℕ → Result CidrValue AddrFault
made_cidr a prefix =
    if nat_lt (width a.family) prefix then Err Prefix
    else (if a.number % size_of a.family prefix == 0 then Ok (cidr_at_prefix a prefix) else Err HostBits)

-- what is printed of a fault
abbrev pub fault_text : AddrFault → List ℕ
fault_text Text = codes "invalid address or CIDR syntax"
fault_text Prefix = codes "prefix longer than an address"
fault_text HostBits = codes "bits set behind the prefix"
