-- Which members each object of a request may have.
use Rattle.std.specs.Prelude.{ℕ, List, codes, Bool, true, ◌&&◌, ◌||◌, bytes_eq, Option, Some, None, if◌then◌else◌}
use Rattle.serde_json.specs.Data.{Data, Members, no_members, member}
use Rattle.ipam_request_text.specs.declared.shape.Shape.{Shape}
use Rattle.ipam_request_text.specs.declared.shape.Shape.TheVariants.{Add, Del, Check, Release, Collect, Probe, Pool, Disable, Reserve, Unreserve, Config, Scope}

abbrev pub in_probe : List ℕ → Bool
in_probe name =
    bytes_eq name (codes "ipv4") || bytes_eq name (codes "ipv6") || bytes_eq name (codes "labels")
    || bytes_eq name (codes "node") || bytes_eq name (codes "pools4")
    || bytes_eq name (codes "pools6")

abbrev pub in_add : List ℕ → Bool
in_add name =
    in_probe name || bytes_eq name (codes "address") || bytes_eq name (codes "handle")
    || bytes_eq name (codes "secondary")

abbrev pub in_collect : List ℕ → Bool
in_collect name =
    bytes_eq name (codes "at") || bytes_eq name (codes "grace") || bytes_eq name (codes "live")
    || bytes_eq name (codes "scope")

abbrev pub in_pool : List ℕ → Bool
in_pool name =
    bytes_eq name (codes "cidr") || bytes_eq name (codes "disabled") || bytes_eq name (codes "mode")
    || bytes_eq name (codes "name") || bytes_eq name (codes "selector")
    || bytes_eq name (codes "size")

abbrev pub in_config : List ℕ → Bool
in_config name =
    bytes_eq name (codes "autoAllocateBlocks") || bytes_eq name (codes "maxBlocksPerHost")
    || bytes_eq name (codes "strictAffinity")

-- whether an object of this shape may have a member of this name
abbrev pub may_have : Shape → List ℕ → Bool
may_have Add name = in_add name
may_have Del name = bytes_eq name (codes "handle")
may_have Check name = bytes_eq name (codes "addresses") || bytes_eq name (codes "handle")
may_have Release name = bytes_eq name (codes "cidr") || bytes_eq name (codes "node")
may_have Collect name = in_collect name
may_have Probe name = in_probe name
may_have Pool name = in_pool name
may_have Disable name = bytes_eq name (codes "disabled") || bytes_eq name (codes "name")
may_have Reserve name = bytes_eq name (codes "cidrs") || bytes_eq name (codes "name")
may_have Unreserve name = bytes_eq name (codes "name")
may_have Config name = in_config name
may_have Scope name = bytes_eq name (codes "network") || bytes_eq name (codes "node")

-- no member is unknown
abbrev pub are_known : Shape → Members → Bool
are_known shape no_members = true
are_known shape (member name d ms) = may_have shape name && are_known shape ms

abbrev pub change_named : List ℕ → Option Shape
change_named name =
    if bytes_eq name (codes "pool") then Some Pool
    else if bytes_eq name (codes "disable") then Some Disable
    else if bytes_eq name (codes "reserve") then Some Reserve
    else if bytes_eq name (codes "unreserve") then Some Unreserve
    else if bytes_eq name (codes "config") then Some Config
    else None

-- the shape of the object that stands under this name in a request
abbrev pub shape_named : List ℕ → Option Shape
shape_named name =
    if bytes_eq name (codes "add") then Some Add
    else if bytes_eq name (codes "del") then Some Del
    else if bytes_eq name (codes "check") then Some Check
    else if bytes_eq name (codes "release") then Some Release
    else if bytes_eq name (codes "collect") then Some Collect
    else if bytes_eq name (codes "probe") then Some Probe
    else change_named name
