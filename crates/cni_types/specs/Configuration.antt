-- The configuration of a call: what is good, and in which order it is tested.
use Rattle.std.specs.Prelude.{ℕ, ◌+◌, List, length, nat_lt, nat_le, ◌==◌, Bool, true, false, ◌&&◌, ◌||◌, codes, bytes_eq, Option, Some, None, option_and_then, unwrap_or, is_some, Result, Ok, Err, is_ok, if◌then◌else◌}
use Rattle.std.specs.List.{list_all, before_first}
use Rattle.serde_json.specs.Data.{Data, null, boolean, number, string, array, object, Items, no_items, item, Members, no_members, member}
use Rattle.serde_json.specs.Find.{get, as_str, as_array, as_object}
use Rattle.ipam_addr.specs.declared.cidrs.AddrFault.{AddrFault}
use Rattle.ipam_addr.specs.declared.cidrs.AddrFault.TheVariants.{Text, Prefix, HostBits}
use Rattle.ipam_addr.specs.Shape.{AddrValue, CidrValue}
use Rattle.ipam_addr.specs.Names.{is_name_text}
use Rattle.ipam_addr.specs.Text.{is_slash, address_of, cidr_reading}
use Rattle.ipam_select.specs.declared.limits.TheConstants.{LABEL_KEY_BYTES_MAX, LABEL_VALUE_BYTES_MAX}
use Rattle.ipam_pool.specs.declared.table.TheConstants.{MOST_POOLS}
use Rattle.cni_types.specs.declared.command.Command.{Command}
use Rattle.cni_types.specs.declared.command.Command.TheVariants.{Add, Del, Check, Version, Gc, Status}
use Rattle.cni_types.specs.declared.refusal.Member.{Member}
use Rattle.cni_types.specs.declared.refusal.Member.TheVariants.{Name, NodeName, NodeLabels, Ipam, IpamType, AssignIpv4, AssignIpv6, Ipv4Pools, Ipv6Pools, PrevResult, PrevResultIps, Attachments, Attachment, AttachmentContainer, AttachmentInterface}
use Rattle.cni_types.specs.Reading.{◌>>◌, demand, text_or_empty, text_or_empty_at, text_found, inside, is_object, is_object_at, is_text_at, is_name_at, are_few, are_few_members}
use Rattle.ipam_block.specs.declared.limits.TheConstants.{CHECKED_MAX}
pub use Rattle.ipam_select.specs.Words.{is_key_byte}

-- ---- the labels of the node

-- 1 to 317 of these bytes
abbrev pub is_label_key : List ℕ → Bool
is_label_key key = nat_lt 0 (length key) && nat_le (length key) LABEL_KEY_BYTES_MAX && list_all is_key_byte key

abbrev pub is_label_text : Option (List ℕ) → Bool
is_label_text None = false
is_label_text (Some text) = nat_le (length text) LABEL_VALUE_BYTES_MAX

-- a text of at most 253 bytes
abbrev pub is_label_value : Data → Bool
is_label_value d = is_label_text (as_str d)

abbrev pub are_all_labels : Members → Bool
are_all_labels no_members = true
are_all_labels (member key d ms) = is_label_key key && is_label_value d && are_all_labels ms

-- at most 64 labels
abbrev pub are_label_members : Option Members → Bool
are_label_members None = false
are_label_members (Some ms) = are_few_members ms && are_all_labels ms

abbrev pub are_labels : Option Data → Bool
are_labels None = true
are_labels (Some d) = are_label_members (as_object d)

-- ---- the families

abbrev pub truth_of_text : List ℕ → Option Bool
truth_of_text text =
    if bytes_eq text (codes "true") then Some true
    else (if bytes_eq text (codes "false") then Some false else None)

-- a truth value, or its text
abbrev pub truth_of : Data → Option Bool
truth_of null = None
truth_of (boolean b) = Some b
truth_of (number n) = None
truth_of (string text) = truth_of_text text
truth_of (array ds) = None
truth_of (object ms) = None

abbrev pub truth_or_default : Bool → Option Data → Option Bool
truth_or_default default None = Some default
truth_or_default default (Some d) = truth_of d

-- whether a family is wanted: the truth value of this name, or the default where it has
-- none
abbrev pub choice : List ℕ → Bool → Data → Option Bool
choice name default d = truth_or_default default (inside (codes "ipam") name d)

abbrev pub wants_ipv4 : Data → Bool
wants_ipv4 d = unwrap_or (choice (codes "assign_ipv4") true d) true

abbrev pub wants_ipv6 : Data → Bool
wants_ipv6 d = unwrap_or (choice (codes "assign_ipv6") false d) false

-- ---- the pools

-- a pool is named by its name or by the text of its CIDR
abbrev pub is_pool_text : List ℕ → Bool
is_pool_text text = is_name_text text || is_ok (cidr_reading text)

abbrev pub are_all_pools : Items → Bool
are_all_pools no_items = true
are_all_pools (item d ds) = is_pool_text (text_or_empty d) && are_all_pools ds

-- at most 64 pools
abbrev pub are_pool_items : Option Items → Bool
are_pool_items None = false
are_pool_items (Some ds) = are_few MOST_POOLS ds && are_all_pools ds

abbrev pub are_pools : Option Data → Bool
are_pools None = true
are_pools (Some d) = are_pool_items (as_array d)

-- ---- the addresses of an earlier result

-- the CIDR was read, but for bits below the prefix
abbrev pub has_prefix : Result CidrValue AddrFault → Bool
has_prefix (Ok r) = true
has_prefix (Err Text) = false
has_prefix (Err Prefix) = false
has_prefix (Err HostBits) = true

-- the address of a text that is an address, `/` and a prefix that its family has
unfoldable pub address_with_prefix : List ℕ → Option AddrValue
address_with_prefix text =
    if has_prefix (cidr_reading text) then address_of (before_first is_slash text) else None

-- the address of an object
abbrev pub address_with_prefix_in : Data → Option AddrValue
address_with_prefix_in d = address_with_prefix (text_or_empty_at (codes "address") d)

abbrev pub are_all_addresses : Items → Bool
are_all_addresses no_items = true
are_all_addresses (item d ds) = is_some (address_with_prefix_in d) && are_all_addresses ds

-- at most 64 addresses
abbrev pub are_address_items : Option Items → Bool
are_address_items None = false
are_address_items (Some ds) = are_few CHECKED_MAX ds && are_all_addresses ds

abbrev pub are_addresses : Option Data → Bool
are_addresses None = true
are_addresses (Some d) = are_address_items (as_array d)

-- ---- the tests in their order

unfoldable pub network_tested : Data → Result (Unit {0}) Member
network_tested d = do
  demand (is_name_at (codes "name") d) Name
  demand (is_name_at (codes "nodename") d) NodeName
  demand (are_labels (get (codes "nodeLabels") d)) NodeLabels
  demand (is_object_at (codes "ipam") d) Ipam
  demand (bytes_eq (text_found (inside (codes "ipam") (codes "type") d)) (codes "calico-ipam")) IpamType

unfoldable pub families_tested : Data → Result (Unit {0}) Member
families_tested d = do
  demand (is_some (choice (codes "assign_ipv4") true d)) AssignIpv4
  demand (is_some (choice (codes "assign_ipv6") false d)) AssignIpv6
  demand (wants_ipv4 d || wants_ipv6 d) AssignIpv4
  demand (are_pools (inside (codes "ipam") (codes "ipv4_pools") d)) Ipv4Pools
  demand (are_pools (inside (codes "ipam") (codes "ipv6_pools") d)) Ipv6Pools

unfoldable pub result_tested : Data → Result (Unit {0}) Member
result_tested d = do
  demand (is_object_at (codes "prevResult") d) PrevResult
  demand (are_addresses (inside (codes "prevResult") (codes "ips") d)) PrevResultIps

unfoldable pub attachment_tested : ℕ → Data → Result (Unit {0}) Member
attachment_tested index d = do
  demand (is_object d) (Attachment index)
  demand (is_name_at (codes "containerID") d) (AttachmentContainer index)
  demand (is_text_at (codes "ifname") d) (AttachmentInterface index)

-- the attachments from this index on
abbrev pub attachments_tested_from : ℕ → Items → Result (Unit {0}) Member
attachments_tested_from index no_items = Ok tt
attachments_tested_from index (item d ds) = do
  attachment_tested index d
  attachments_tested_from (index + 1) ds

abbrev pub attachment_items_tested : Option Items → Result (Unit {0}) Member
attachment_items_tested None = Err Attachments
attachment_items_tested (Some ds) = attachments_tested_from 0 ds

abbrev pub attachments_tested : Data → Result (Unit {0}) Member
attachments_tested d =
    attachment_items_tested (option_and_then as_array (get (codes "cni.dev/valid-attachments") d))

-- what ADD, DEL and STATUS test
unfoldable pub wishes_tested : Data → Result (Unit {0}) Member
wishes_tested d = do
  network_tested d
  families_tested d

unfoldable pub check_tested : Data → Result (Unit {0}) Member
check_tested d = do
  wishes_tested d
  result_tested d

unfoldable pub gc_tested : Data → Result (Unit {0}) Member
gc_tested d = do
  network_tested d
  attachments_tested d

abbrev pub configuration_tested : Command → Data → Result (Unit {0}) Member
configuration_tested Add d = wishes_tested d
configuration_tested Del d = wishes_tested d
configuration_tested Check d = check_tested d
configuration_tested Version d = Ok tt
configuration_tested Gc d = gc_tested d
configuration_tested Status d = wishes_tested d
