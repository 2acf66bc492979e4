-- Which calls are sound: what they ask keeps every limit.
use Rattle.std.specs.Prelude.{ℕ, ◌<◌, ◌≤◌, ◌||◌, IsTrue, List, length, map}
use Rattle.std.specs.List.{All, list_all}
use Rattle.std.specs.Ordering.{nat_cmp}
use Rattle.std.specs.Cmp.Lexicographic.{slice_cmp}
use Rattle.std.specs.List.Sorted.{IsStrictlySortedBy}
use Rattle.ipam_addr.specs.Names.{is_name_text, is_handle_text}
use Rattle.ipam_select.specs.declared.limits.TheConstants.{LABELS_MAX, LABEL_KEY_BYTES_MAX, LABEL_VALUE_BYTES_MAX}
use Rattle.ipam_pool.specs.declared.table.TheConstants.{MOST_POOLS}
use Rattle.ipam_block.specs.declared.limits.TheConstants.{PAIRS_MAX, KEY_BYTES_MAX, VALUE_BYTES_MAX, CHECKED_MAX}
use Rattle.cni_types.specs.declared.calls.CniAdd.{CniAdd}
use Rattle.cni_types.specs.declared.calls.CniCheck.{CniCheck}
use Rattle.cni_types.specs.declared.calls.CniGc.{CniGc}
use Rattle.cni_types.specs.declared.calls.CniStatus.{CniStatus}
use Rattle.cni_types.specs.declared.calls.Look.{Look}
use Rattle.cni_types.specs.declared.calls.Look.TheVariants.{Version, Add, Del, Check, Gc, Status}
use Rattle.cni_types.specs.Reading.{Pair}
use Rattle.cni_types.specs.Configuration.{is_key_byte, is_pool_text}

abbrev pub IsName : List ℕ → Type 0
IsName text = IsTrue (is_name_text text)

abbrev pub IsHandleId : List ℕ → Type 0
IsHandleId text = IsTrue (is_handle_text text)

-- the keys ascend by their bytes
abbrev pub KeysAscend : List Pair → Type 0
KeysAscend pairs = IsStrictlySortedBy (slice_cmp nat_cmp) (map (λ pair. pair.0) pairs)

pub record IsLabel (label : Pair) : Type 0 where
  pub key_some : 0 < length label.0
  pub key_small : length label.0 ≤ LABEL_KEY_BYTES_MAX
  pub key_bytes : IsTrue (list_all is_key_byte label.0)
  pub value_small : length label.1 ≤ LABEL_VALUE_BYTES_MAX

pub record AreLabels (labels : List Pair) : Type 0 where
  pub few : length labels ≤ LABELS_MAX
  pub each : All IsLabel labels
  pub ascending : KeysAscend labels

abbrev pub IsPoolName : List ℕ → Type 0
IsPoolName text = IsTrue (is_pool_text text)

pub record ArePoolNames (names : List (List ℕ)) : Type 0 where
  pub few : length names ≤ MOST_POOLS
  pub each : All IsPoolName names

-- what an address is recorded with
pub record IsPair (pair : Pair) : Type 0 where
  pub key_some : 0 < length pair.0
  pub key_small : length pair.0 ≤ KEY_BYTES_MAX
  pub value_small : length pair.1 ≤ VALUE_BYTES_MAX

pub record ArePairs (pairs : List Pair) : Type 0 where
  pub few : length pairs ≤ PAIRS_MAX
  pub each : All IsPair pairs
  pub ascending : KeysAscend pairs

pub record IsSoundAdd (add : CniAdd) : Type 0 where
  pub handle : IsHandleId add.handle
  pub node : IsName add.node
  pub secondary : ArePairs add.secondary
  pub labels : AreLabels add.labels
  pub pools4 : ArePoolNames add.pools4
  pub pools6 : ArePoolNames add.pools6
  pub some_family : IsTrue (add.ipv4 || add.ipv6)

pub record IsSoundCheck (check : CniCheck) : Type 0 where
  pub handle : IsHandleId check.handle
  pub few : length check.addresses ≤ CHECKED_MAX

pub record IsSoundGc (gc : CniGc) : Type 0 where
  pub network : IsName gc.network
  pub node : IsName gc.node
  pub live : All IsHandleId gc.live

pub record IsSoundStatus (status : CniStatus) : Type 0 where
  pub node : IsName status.node
  pub labels : AreLabels status.labels
  pub pools4 : ArePoolNames status.pools4
  pub pools6 : ArePoolNames status.pools6
  pub some_family : IsTrue (status.ipv4 || status.ipv6)

abbrev pub IsSoundLook : Look → Type 0
IsSoundLook (Version version) = Unit {0}
IsSoundLook (Add add) = IsSoundAdd add
IsSoundLook (Del del) = IsHandleId del.handle
IsSoundLook (Check check) = IsSoundCheck check
IsSoundLook (Gc gc) = IsSoundGc gc
IsSoundLook (Status status) = IsSoundStatus status
