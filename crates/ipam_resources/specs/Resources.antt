-- One resource: what it changes, or else its first bad member in the order in which they are tested.
use Rattle.std.specs.Prelude.{ℕ, List, codes, true, false, Option, option_and_then, Result, Ok}
use Rattle.std.specs.Option.{ok_or}
use Rattle.serde_json.specs.Data.{Data}
use Rattle.serde_json.specs.Find.{as_bool, as_str}
use Rattle.ipam_select.specs.Formula.{every}
use Rattle.ipam_pool.specs.declared.pools.Pool.{Pool}
use Rattle.ipam_pool.specs.declared.pools.Mode.{Mode}
use Rattle.ipam_pool.specs.declared.pools.Mode.TheVariants.{Automatic}
use Rattle.ipam_pool.specs.Shape.{ReservationValue}
use Rattle.ipam_record_text.specs.declared.config.Config.{Config as Settings}
use Rattle.ipam_record_text.specs.Reservations.{cidr_in, named_cidrs}
use Rattle.ipam_model.specs.declared.request.Admin.TheVariants as change
use Rattle.ipam_resources.specs.declared.kind.ResourceKind.{ResourceKind}
use Rattle.ipam_resources.specs.declared.kind.ResourceKind.TheVariants as kind
use Rattle.ipam_resources.specs.declared.member.Member.{Member}
use Rattle.ipam_resources.specs.declared.member.Member.TheVariants as member
use Rattle.ipam_resources.specs.declared.resource.Resource.{Resource}
use Rattle.ipam_resources.specs.Members.{◌>>=◌, required, optional}
use Rattle.ipam_resources.specs.Naming.{kind_of}
use Rattle.ipam_resources.specs.Values.{name_in, size_in, bound_in, selector_value_in, mode_value_in, uses_in, ranges_in, default_size}

-- ---- a pool

-- the pool with what every pool may state: its name, CIDR and size, and whether it is disabled
unfoldable pub plain_pool : Data → Result Pool Member
plain_pool d = do
  name ← required name_in member.Name d
  cidr ← required cidr_in member.Cidr d
  size ← optional size_in (default_size cidr.family) member.BlockSize d
  disabled ← optional as_bool false member.Disabled d
  Ok (record { name = name; cidr = cidr; size = size; disabled = disabled; mode = Automatic; selector = every })

-- its mode. It must be one for workloads
unfoldable pub mode_at : Data → Result Mode Member
mode_at d = do
  for_workloads ← optional uses_in tt member.AllowedUses d
  optional mode_value_in Automatic member.AssignmentMode d

unfoldable pub pool_reading : Data → Result Pool Member
pool_reading d = do
  plain ← plain_pool d
  selector ← optional selector_value_in every member.NodeSelector d
  mode ← mode_at d
  Ok (record plain { mode = mode; selector = selector })

-- ---- a reservation

unfoldable pub reservation_reading : Data → Result ReservationValue Member
reservation_reading d = do
  name ← required name_in member.Name d
  ranges ← required ranges_in member.ReservedCidrs d
  ok_or (named_cidrs name ranges) member.ReservedCidrs

-- ---- a configuration

unfoldable pub settings_reading : Data → Result Settings Member
settings_reading d = do
  strict ← optional as_bool false member.StrictAffinity d
  auto ← optional as_bool true member.AutoAllocateBlocks d
  most ← optional bound_in 0 member.MaxBlocksPerHost d
  Ok (record { strict = strict; auto = auto; max_blocks = most })

-- the name that a configuration is printed with
unfoldable pub config_name : Data → Result (List ℕ) Member
config_name d = optional name_in (codes "default") member.Name d

-- ---- each kind

abbrev pub pool_resource : Pool → Resource
pool_resource pool = record { kind = kind.Pool; name = pool.name; change = change.Pool pool }

abbrev pub reservation_resource : ReservationValue → Resource
reservation_resource r = record { kind = kind.Reservation; name = r.name; change = change.Reserve r }

abbrev pub config_resource : ResourceKind → Settings → List ℕ → Resource
config_resource k settings name = record { kind = k; name = name; change = change.Config settings }

unfoldable pub pool_resource_in : Data → Result Resource Member
pool_resource_in d = do
  pool ← pool_reading d
  Ok (pool_resource pool)

unfoldable pub reservation_resource_in : Data → Result Resource Member
reservation_resource_in d = do
  reservation ← reservation_reading d
  Ok (reservation_resource reservation)

unfoldable pub config_resource_in : ResourceKind → Data → Result Resource Member
config_resource_in k d = do
  settings ← settings_reading d
  name ← config_name d
  Ok (config_resource k settings name)

-- the resource of this kind
abbrev pub resource_in : ResourceKind → Data → Result Resource Member
resource_in kind.Pool d = pool_resource_in d
resource_in kind.Reservation d = reservation_resource_in d
resource_in kind.Config d = config_resource_in kind.Config d
resource_in kind.Configuration d = config_resource_in kind.Configuration d

unfoldable pub kind_in : Data → Option ResourceKind
kind_in d = option_and_then kind_of (as_str d)

-- the resource that an item of a list is
unfoldable pub item_in : Data → Result Resource Member
item_in d = do
  k ← required kind_in member.Kind d
  resource_in k d
