-- Which blocks have a confirmed affinity.
use Rattle.std.specs.Prelude.{ℕ, Bool, false, ◌&&◌, List, Option, Some, None, bytes_eq, if◌then◌else◌}
use Rattle.std.specs.BTreeSet.{contains}
use Rattle.ipam_addr.specs.Shape.{CidrValue}
use Rattle.ipam_block.specs.Order.{cidr_cmp}
use Rattle.ipam_records.specs.declared.record.Record.{Record}
use Rattle.ipam_records.specs.declared.record.Record.TheVariants as record_of
use Rattle.ipam_model.specs.Usable.{is_same_cidr}
use Rattle.ipam_model.specs.Choice.{is_confirmed_state}
use Rattle.ipam_choice.specs.declared.confirmed.Confirmed.{Confirmed}

abbrev pub has_confirmed : Confirmed → CidrValue → Bool
has_confirmed confirmed cidr = contains cidr_cmp confirmed.cidrs cidr

-- the block of the affinity, where it is a confirmed one of the node
abbrev pub confirmed_in : List ℕ → Record → Option CidrValue
confirmed_in node (record_of.Affinity a) =
    if bytes_eq a.node node && is_confirmed_state a.state then Some a.cidr else None
confirmed_in node _ = None

-- whether the block that is there is this one
abbrev pub is_there : Option CidrValue → CidrValue → Bool
is_there None other = false
is_there (Some cidr) other = is_same_cidr cidr other
