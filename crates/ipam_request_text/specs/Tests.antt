-- Whether a request is sound, as a test.
use Rattle.std.specs.Prelude.{ℕ, ◌^◌, ◌%◌, Bool, true, false, ◌&&◌, ◌||◌, ◌==◌, nat_lt, nat_le, is_some, List, [], ◌∷◌, length, Option, Some, None}
use Rattle.std.specs.List.{list_all}
use Rattle.ipam_addr.specs.Shape.{AddrValue, CidrValue}
use Rattle.ipam_addr.specs.Width.{width, address_count, cidr_size}
use Rattle.ipam_addr.specs.Names.{is_name_text, is_handle_text}
use Rattle.ipam_block_text.specs.Limits.{keys_ascend, are_attributes}
use Rattle.ipam_select.specs.declared.limits.TheConstants.{LABELS_MAX, LABEL_KEY_BYTES_MAX, LABEL_VALUE_BYTES_MAX}
use Rattle.ipam_select.specs.Sound.{is_sound}
use Rattle.ipam_pool.specs.declared.pools.Pool.{Pool as OnePool}
use Rattle.ipam_pool.specs.declared.table.TheConstants.{MOST_POOLS}
use Rattle.ipam_pool.specs.declared.reservations.TheConstants.{MOST_CIDRS}
use Rattle.ipam_pool.specs.Shape.{ReservationValue}
use Rattle.ipam_record_text.specs.Blocks.{cidr_of}
use Rattle.ipam_block.specs.declared.limits.TheConstants.{CHECKED_MAX}
use Rattle.ipam_model.specs.declared.request.AddRequest.{AddRequest}
use Rattle.ipam_model.specs.declared.request.Admin.{Admin}
use Rattle.ipam_model.specs.declared.request.Admin.TheVariants as change
use Rattle.ipam_model.specs.declared.request.CollectRequest.{CollectRequest}
use Rattle.ipam_model.specs.declared.request.ProbeRequest.{ProbeRequest}
use Rattle.ipam_model.specs.declared.request.Request.{Request}
use Rattle.ipam_model.specs.declared.request.Request.TheVariants.{Add, AddThis, Del, Check, Release, Collect, Admin as Change, Probe}
use Rattle.ipam_model.specs.Pairs.{Pair}
use Rattle.ipam_model.specs.SoundRequest.{is_key_byte}

abbrev pub is_address : AddrValue → Bool
is_address a = nat_lt a.number (address_count a.family)

abbrev pub is_cidr : CidrValue → Bool
is_cidr r =
    nat_le r.prefix (width r.family) && nat_lt r.base (address_count r.family)
    && (r.base % cidr_size r == 0)

abbrev pub is_label : Pair → Bool
is_label label =
    nat_lt 0 (length label.0) && nat_le (length label.0) LABEL_KEY_BYTES_MAX && list_all is_key_byte label.0
    && nat_le (length label.1) LABEL_VALUE_BYTES_MAX

abbrev pub are_sound_labels : List Pair → Bool
are_sound_labels labels = nat_le (length labels) LABELS_MAX && list_all is_label labels && keys_ascend labels

abbrev pub is_pool_name : List ℕ → Bool
is_pool_name text = is_name_text text || is_some (cidr_of text)

abbrev pub are_pool_names : List (List ℕ) → Bool
are_pool_names names = nat_le (length names) MOST_POOLS && list_all is_pool_name names

abbrev pub is_sound_add : AddRequest → Bool
is_sound_add r =
    is_name_text r.node && are_attributes r.attributes && are_sound_labels r.labels
    && are_pool_names r.pools4 && are_pool_names r.pools6

abbrev pub is_sound_probe : ProbeRequest → Bool
is_sound_probe r =
    is_name_text r.node && are_sound_labels r.labels && are_pool_names r.pools4 && are_pool_names r.pools6
    && (r.ipv4 || r.ipv6)

abbrev pub is_scope : Option (List ℕ × List ℕ) → Bool
is_scope None = true
is_scope (Some scope) = is_name_text scope.0 && is_name_text scope.1

abbrev pub is_sound_collect : CollectRequest → Bool
is_sound_collect r =
    list_all is_handle_text r.live && nat_lt r.at (2 ^ 64) && nat_lt r.grace (2 ^ 64)
    && is_scope r.scope

abbrev pub is_sound_pool : OnePool → Bool
is_sound_pool p = is_name_text p.name && is_cidr p.cidr && nat_lt p.size (2 ^ 8) && is_sound p.selector

abbrev pub is_sound_reservation : ReservationValue → Bool
is_sound_reservation r =
    is_name_text r.name && nat_le (length r.cidrs) MOST_CIDRS && list_all is_cidr r.cidrs

abbrev pub is_sound_change : Admin → Bool
is_sound_change (change.Pool pool) = is_sound_pool pool
is_sound_change (change.Disable name disabled) = is_name_text name
is_sound_change (change.Reserve reservation) = is_sound_reservation reservation
is_sound_change (change.Unreserve name) = is_name_text name
is_sound_change (change.Config settings) = nat_lt settings.max_blocks (2 ^ 32)

unfoldable pub is_sound_request : Request → Bool
is_sound_request (Add request) = is_sound_add request && (request.ipv4 || request.ipv6)
is_sound_request (AddThis request address) = is_sound_add request && is_address address
is_sound_request (Del id) = is_handle_text id
is_sound_request (Check id addresses) =
    is_handle_text id && nat_le (length addresses) CHECKED_MAX && list_all is_address addresses
is_sound_request (Release node cidr) = is_name_text node && is_cidr cidr
is_sound_request (Collect request) = is_sound_collect request
is_sound_request (Change request) = is_sound_change request
is_sound_request (Probe request) = is_sound_probe request
