-- The JSON of each request.
use Rattle.std.specs.Prelude.{ℕ, List, [], ◌∷◌, codes, Bool}
use Rattle.serde_json.specs.Data.{Data, boolean, string, object, Members, no_members, put}
use Rattle.serde_json.specs.Written.{compact_text}
use Rattle.ipam_json.specs.Built.{object_of, whole_data, tagged}
use Rattle.ipam_addr.specs.Shape.{AddrValue, CidrValue}
use Rattle.ipam_pool.specs.declared.pools.Pool.{Pool as OnePool}
use Rattle.ipam_record_text.specs.declared.config.Config.{Config as Settings}
use Rattle.ipam_pool.specs.Shape.{ReservationValue}
use Rattle.ipam_model.specs.declared.request.AddRequest.{AddRequest}
use Rattle.ipam_model.specs.declared.request.Admin.{Admin}
use Rattle.ipam_model.specs.declared.request.Admin.TheVariants as change
use Rattle.ipam_model.specs.declared.request.CollectRequest.{CollectRequest}
use Rattle.ipam_model.specs.declared.request.ProbeRequest.{ProbeRequest}
use Rattle.ipam_model.specs.declared.request.Request.{Request}
use Rattle.ipam_model.specs.declared.request.Request.TheVariants.{Add, AddThis, Del, Check, Release, Collect, Admin as Change, Probe}
use Rattle.ipam_record_text.specs.Reservations.{cidr_data}
use Rattle.ipam_request_text.specs.Parts.{texts_data, address_data, addresses_data, cidrs_data}
use Rattle.ipam_request_text.specs.Members.{with_text, where_true, where_false, where_some_number, where_some_pairs, where_manual, where_selective, where_scope, wishes}

unfoldable pub add_members : AddRequest → Members
add_members r =
    where_some_pairs r.attributes.secondary (codes "secondary")
    (wishes r.ipv4 r.ipv6 r.labels r.pools4 r.pools6
    (with_text (codes "node") r.node
    (with_text (codes "handle") r.attributes.handle no_members)))

abbrev pub add_data : AddRequest → Data
add_data r = tagged (codes "add") (object (add_members r))

abbrev pub add_this_data : AddRequest → AddrValue → Data
add_this_data r address =
    tagged (codes "add") (object (put (codes "address") (address_data address) (add_members r)))

abbrev pub del_data : List ℕ → Data
del_data id = tagged (codes "del") (object_of ((codes "handle", string id) ∷ []))

abbrev pub check_data : List ℕ → List AddrValue → Data
check_data id addresses =
    tagged (codes "check")
    (object_of ((codes "addresses", addresses_data addresses) ∷ (codes "handle", string id) ∷ []))

abbrev pub release_data : List ℕ → CidrValue → Data
release_data node cidr =
    tagged (codes "release")
    (object_of ((codes "cidr", cidr_data cidr) ∷ (codes "node", string node) ∷ []))

unfoldable pub collect_members : CollectRequest → Members
collect_members r =
    where_scope r.scope
    (where_some_number r.grace (codes "grace")
    (where_some_number r.at (codes "at")
    (put (codes "live") (texts_data r.live) no_members)))

abbrev pub collect_data : CollectRequest → Data
collect_data r = tagged (codes "collect") (object (collect_members r))

unfoldable pub probe_members : ProbeRequest → Members
probe_members r =
    wishes r.ipv4 r.ipv6 r.labels r.pools4 r.pools6 (with_text (codes "node") r.node no_members)

abbrev pub probe_data : ProbeRequest → Data
probe_data r = tagged (codes "probe") (object (probe_members r))

unfoldable pub pool_members : OnePool → Members
pool_members p =
    where_selective p.selector
    (where_manual p.mode
    (where_true p.disabled (codes "disabled")
    (put (codes "size") (whole_data p.size)
    (with_text (codes "name") p.name
    (put (codes "cidr") (cidr_data p.cidr) no_members)))))

abbrev pub one_pool_data : OnePool → Data
one_pool_data p = tagged (codes "pool") (object (pool_members p))

abbrev pub disable_data : List ℕ → Bool → Data
disable_data name disabled =
    tagged (codes "disable")
    (object_of ((codes "disabled", boolean disabled) ∷ (codes "name", string name) ∷ []))

abbrev pub reserve_data : ReservationValue → Data
reserve_data r =
    tagged (codes "reserve")
    (object_of ((codes "cidrs", cidrs_data r.cidrs) ∷ (codes "name", string r.name) ∷ []))

abbrev pub unreserve_data : List ℕ → Data
unreserve_data name = tagged (codes "unreserve") (object_of ((codes "name", string name) ∷ []))

unfoldable pub config_members : Settings → Members
config_members c =
    where_true c.strict (codes "strictAffinity")
    (where_some_number c.max_blocks (codes "maxBlocksPerHost")
    (where_false c.auto (codes "autoAllocateBlocks") no_members))

abbrev pub settings_data : Settings → Data
settings_data c = tagged (codes "config") (object (config_members c))

abbrev pub change_data : Admin → Data
change_data (change.Pool pool) = one_pool_data pool
change_data (change.Disable name disabled) = disable_data name disabled
change_data (change.Reserve reservation) = reserve_data reservation
change_data (change.Unreserve name) = unreserve_data name
change_data (change.Config settings) = settings_data settings

abbrev pub request_data : Request → Data
request_data (Add request) = add_data request
request_data (AddThis request address) = add_this_data request address
request_data (Del id) = del_data id
request_data (Check id addresses) = check_data id addresses
request_data (Release node cidr) = release_data node cidr
request_data (Collect request) = collect_data request
request_data (Change request) = change_data request
request_data (Probe request) = probe_data request

-- the text of a request
unfoldable pub request_text : Request → List ℕ
request_text request = compact_text (request_data request)

-- the text of a list of live handles
unfoldable pub live_text : List (List ℕ) → List ℕ
live_text live = compact_text (texts_data live)
