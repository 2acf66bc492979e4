-- Which requests are sound: those that can be read from some text.
use Rattle.std.specs.Prelude.{◌≡◌, ℕ, ◌^◌, ◌<◌, ◌≤◌, ◌⊎◌, Bool, ◌||◌, ◌==◌, IsTrue, List, length, map, Option, Some, None, Ok}
use Rattle.std.specs.List.{All, list_all}
use Rattle.std.specs.Ordering.{nat_cmp}
use Rattle.std.specs.Cmp.Lexicographic.{slice_cmp}
use Rattle.std.specs.List.Sorted.{IsStrictlySortedBy}
use Rattle.ipam_addr.specs.Shape.{CidrValue}
use Rattle.ipam_addr.specs.Text.{cidr_reading}
use Rattle.ipam_addr.specs.Width.{IsAddress, IsCidr}
use Rattle.ipam_select.specs.declared.limits.TheConstants.{LABELS_MAX, LABEL_KEY_BYTES_MAX, LABEL_VALUE_BYTES_MAX}
use Rattle.ipam_pool.specs.declared.table.TheConstants.{MOST_POOLS}
use Rattle.ipam_record_text.specs.Pools.{IsSoundPool}
use Rattle.ipam_records.specs.Sound.{IsName, IsHandleId, AreAttributes, IsReservation}
use Rattle.ipam_block.specs.declared.limits.TheConstants.{CHECKED_MAX}
use Rattle.ipam_model.specs.declared.request.AddRequest.{AddRequest}
use Rattle.ipam_model.specs.declared.request.Admin.{Admin}
use Rattle.ipam_model.specs.declared.request.Admin.TheVariants as change
use Rattle.ipam_model.specs.declared.request.CollectRequest.{CollectRequest}
use Rattle.ipam_model.specs.declared.request.ProbeRequest.{ProbeRequest}
use Rattle.ipam_model.specs.declared.request.Request.{Request}
use Rattle.ipam_model.specs.declared.request.Request.TheVariants.{Add, AddThis, Del, Check, Release, Collect, Admin as Change, Probe}
use Rattle.ipam_model.specs.Pairs.{Pair}
pub use Rattle.ipam_select.specs.Words.{is_key_byte}

pub record IsLabel (label : Pair) : Type 0 where
  pub key_some : 0 < length label.0
  pub key_small : length label.0 ≤ LABEL_KEY_BYTES_MAX
  pub key_bytes : IsTrue (list_all is_key_byte label.0)
  pub value_small : length label.1 ≤ LABEL_VALUE_BYTES_MAX

-- at most 64 labels whose keys ascend by their bytes
pub record AreLabels (labels : List Pair) : Type 0 where
  pub few : length labels ≤ LABELS_MAX
  pub each : All IsLabel labels
  pub ascending : IsStrictlySortedBy (slice_cmp nat_cmp) (map (λ label. label.0) labels)

-- a pool is named by its name or by the text of its CIDR
abbrev pub IsPoolName : List ℕ → Type 0
IsPoolName text = IsName text ⊎ ((cidr : CidrValue) × (cidr_reading text ≡ Ok cidr))

pub record ArePoolNames (names : List (List ℕ)) : Type 0 where
  pub few : length names ≤ MOST_POOLS
  pub each : All IsPoolName names

pub record IsSoundAdd (request : AddRequest) : Type 0 where
  pub node : IsName request.node
  pub attributes : AreAttributes request.attributes
  pub labels : AreLabels request.labels
  pub pools4 : ArePoolNames request.pools4
  pub pools6 : ArePoolNames request.pools6

pub record IsSoundProbe (request : ProbeRequest) : Type 0 where
  pub node : IsName request.node
  pub labels : AreLabels request.labels
  pub pools4 : ArePoolNames request.pools4
  pub pools6 : ArePoolNames request.pools6
  pub some_family : IsTrue (request.ipv4 || request.ipv6)

abbrev pub IsScope : Option (List ℕ × List ℕ) → Type 0
IsScope None = Unit {0}
IsScope (Some scope) = IsName scope.0 × IsName scope.1

pub record IsSoundCollect (request : CollectRequest) : Type 0 where
  pub live : All IsHandleId request.live
  pub at : request.at < 2 ^ 64
  pub grace : request.grace < 2 ^ 64
  pub scope : IsScope request.scope

-- whether a pool's size is one of the family's is tested against the table
abbrev pub IsSoundChange : Admin → Type 0
IsSoundChange (change.Pool pool) = IsSoundPool pool
IsSoundChange (change.Disable name disabled) = IsName name
IsSoundChange (change.Reserve reservation) = IsReservation reservation
IsSoundChange (change.Unreserve name) = IsName name
IsSoundChange (change.Config config) = config.max_blocks < 2 ^ 32

abbrev pub IsSoundRequest : Request → Type 0
IsSoundRequest (Add request) = IsSoundAdd request × IsTrue (request.ipv4 || request.ipv6)
IsSoundRequest (AddThis request address) = IsSoundAdd request × IsAddress address
IsSoundRequest (Del id) = IsHandleId id
IsSoundRequest (Check id addresses) = IsHandleId id × (length addresses ≤ CHECKED_MAX) × All IsAddress addresses
IsSoundRequest (Release node cidr) = IsName node × IsCidr cidr
IsSoundRequest (Collect request) = IsSoundCollect request
IsSoundRequest (Change request) = IsSoundChange request
IsSoundRequest (Probe request) = IsSoundProbe request
