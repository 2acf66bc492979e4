-- The kinds of resources and the members that are read of them, by their texts.
use Rattle.std.specs.Prelude.{ℕ, List, [], ◌++◌, codes, decimal, Bool, ◌||◌, bytes_eq, Option, Some, None, option_map, if◌then◌else◌}
use Rattle.ipam_resources.specs.declared.kind.ResourceKind.{ResourceKind}
use Rattle.ipam_resources.specs.declared.kind.ResourceKind.TheVariants as kind
use Rattle.ipam_resources.specs.declared.kind.DocumentKind.{DocumentKind}
use Rattle.ipam_resources.specs.declared.kind.DocumentKind.TheVariants.{One, Several}
use Rattle.ipam_resources.specs.declared.member.Member.{Member}
use Rattle.ipam_resources.specs.declared.member.Member.TheVariants as member
use Rattle.ipam_resources.specs.declared.member.Place.{Place}

abbrev pub resource_kind_text : ResourceKind → List ℕ
resource_kind_text kind.Pool = codes "IPPool"
resource_kind_text kind.Reservation = codes "IPReservation"
resource_kind_text kind.Config = codes "IPAMConfig"
resource_kind_text kind.Configuration = codes "IPAMConfiguration"

-- the kind of one resource whose text this is
unfoldable pub kind_of : List ℕ → Option ResourceKind
kind_of text =
    if bytes_eq text (codes "IPPool") then Some kind.Pool
    else (if bytes_eq text (codes "IPReservation") then Some kind.Reservation
    else (if bytes_eq text (codes "IPAMConfig") then Some kind.Config
    else (if bytes_eq text (codes "IPAMConfiguration") then Some kind.Configuration
    else None)))

-- the text is the kind of a list of resources
unfoldable pub is_list_kind : List ℕ → Bool
is_list_kind text =
    bytes_eq text (codes "List") || bytes_eq text (codes "IPPoolList")
    || bytes_eq text (codes "IPReservationList")

-- the kind of a document whose text this is
unfoldable pub document_kind_of : List ℕ → Option DocumentKind
document_kind_of text = if is_list_kind text then Some Several else option_map One (kind_of text)

-- the object of the resource that a member stands in, where it isn't the resource itself
abbrev pub part_of : Member → Option (List ℕ)
part_of member.Kind = None
part_of member.Items = None
part_of member.Name = Some (codes "metadata")
part_of _ = Some (codes "spec")

abbrev pub member_name : Member → List ℕ
member_name member.Kind = codes "kind"
member_name member.Items = codes "items"
member_name member.Name = codes "name"
member_name member.Cidr = codes "cidr"
member_name member.BlockSize = codes "blockSize"
member_name member.Disabled = codes "disabled"
member_name member.NodeSelector = codes "nodeSelector"
member_name member.AllowedUses = codes "allowedUses"
member_name member.AssignmentMode = codes "assignmentMode"
member_name member.ReservedCidrs = codes "reservedCIDRs"
member_name member.StrictAffinity = codes "strictAffinity"
member_name member.AutoAllocateBlocks = codes "autoAllocateBlocks"
member_name member.MaxBlocksPerHost = codes "maxBlocksPerHost"

abbrev pub part_lead : Option (List ℕ) → List ℕ
part_lead None = []
part_lead (Some part) = part ++ codes "."

-- the path of a member in its resource, as `spec.cidr`
unfoldable pub member_path : Member → List ℕ
member_path m = part_lead (part_of m) ++ member_name m

abbrev pub item_lead : Option ℕ → List ℕ
item_lead None = []
item_lead (Some n) = codes "items." ++ (decimal n ++ codes ".")

-- the path of a member in the document, as `items.0.spec.cidr`
unfoldable pub place_path : Place → List ℕ
place_path place = item_lead place.item ++ member_path place.member
