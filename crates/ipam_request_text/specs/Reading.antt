-- What a text is read as, where it is that of a request.
use Rattle.std.specs.Prelude.{ℕ, List, [], codes, true, false, Option, Some, None, option_map, option_and_then}
use Rattle.serde_json.specs.Data.{Data}
use Rattle.serde_json.specs.Find.{get, as_object}
use Rattle.serde_json.specs.Read.{read}
use Rattle.std.specs.Str.{is_utf8}
use Rattle.ipam_pool.specs.declared.pools.Pool.{Pool as OnePool}
use Rattle.ipam_record_text.specs.declared.config.Config.{Config as Settings}
use Rattle.ipam_json.specs.Members.{◌>>=◌, only_if, only_member, truth_at, text_at, items_at}
use Rattle.ipam_record_text.specs.Reservations.{cidrs_after, named_cidrs}
use Rattle.ipam_model.specs.declared.request.AddRequest.{AddRequest}
use Rattle.ipam_model.specs.declared.request.Admin.TheVariants as change
use Rattle.ipam_model.specs.declared.request.CollectRequest.{CollectRequest}
use Rattle.ipam_model.specs.declared.request.ProbeRequest.{ProbeRequest}
use Rattle.ipam_model.specs.declared.request.Request.{Request}
use Rattle.ipam_model.specs.declared.request.Request.TheVariants as request
use Rattle.ipam_request_text.specs.declared.shape.Shape.{Shape}
use Rattle.ipam_request_text.specs.declared.shape.Shape.TheVariants.{Add, Del, Check, Release, Collect, Probe, Pool, Disable, Reserve, Unreserve, Config, Scope}
use Rattle.ipam_request_text.specs.Fields.{truth_or, whole_or_0, number_or_0, small_at, texts_in, texts_or_none, pairs_or_none, address_in, addresses_after, cidr_member, mode_or, selector_or, scope_or}
use Rattle.ipam_request_text.specs.Shapes.{are_known, shape_named}
use Rattle.ipam_request_text.specs.Tests.{is_sound_request}

unfoldable pub probe_in : Data → Option ProbeRequest
probe_in d = do
  ipv4 ← truth_or true (codes "ipv4") d
  ipv6 ← truth_or false (codes "ipv6") d
  node ← text_at (codes "node") d
  labels ← pairs_or_none (codes "labels") d
  pools4 ← texts_or_none (codes "pools4") d
  pools6 ← texts_or_none (codes "pools6") d
  Some (record { node = node; labels = labels; ipv4 = ipv4; ipv6 = ipv6; pools4 = pools4; pools6 = pools6 })

-- what an ADD asks beside what a probe asks
abbrev pub add_like_probe : ProbeRequest → (handle : List ℕ) → (secondary : List (List ℕ × List ℕ)) → AddRequest
add_like_probe probe handle secondary = record {
  node = probe.node;
  attributes = record { handle = handle; secondary = secondary };
  ipv4 = probe.ipv4;
  ipv6 = probe.ipv6;
  labels = probe.labels;
  pools4 = probe.pools4;
  pools6 = probe.pools6;
}

unfoldable pub add_in : Data → Option AddRequest
add_in d = do
  probe ← probe_in d
  handle ← text_at (codes "handle") d
  secondary ← pairs_or_none (codes "secondary") d
  Some (add_like_probe probe handle secondary)

-- the address that is asked for, if any
abbrev pub asked_in : AddRequest → Option Data → Option Request
asked_in add None = Some (request.Add add)
asked_in add (Some d) = option_map (request.AddThis add) (address_in d)

unfoldable pub any_add_in : Data → Option Request
any_add_in d = do
  add ← add_in d
  asked_in add (get (codes "address") d)

unfoldable pub check_in : Data → Option Request
check_in d = do
  items ← items_at (codes "addresses") d
  addresses ← addresses_after [] items
  id ← text_at (codes "handle") d
  Some (request.Check id addresses)

unfoldable pub release_in : Data → Option Request
release_in d = do
  cidr ← cidr_member (codes "cidr") d
  node ← text_at (codes "node") d
  Some (request.Release node cidr)

unfoldable pub collect_in : Data → Option CollectRequest
collect_in d = do
  at ← whole_or_0 (codes "at") d
  grace ← whole_or_0 (codes "grace") d
  listed ← get (codes "live") d
  live ← texts_in listed
  scope ← scope_or d
  Some (record { live = live; at = at; grace = grace; scope = scope })

unfoldable pub one_pool_in : Data → Option OnePool
one_pool_in d = do
  cidr ← cidr_member (codes "cidr") d
  size ← small_at (codes "size") d
  disabled ← truth_or false (codes "disabled") d
  mode ← mode_or d
  name ← text_at (codes "name") d
  selector ← selector_or d
  Some (record { name = name; cidr = cidr; size = size; disabled = disabled; mode = mode; selector = selector })

unfoldable pub disable_in : Data → Option Request
disable_in d = do
  disabled ← truth_at (codes "disabled") d
  name ← text_at (codes "name") d
  Some (request.Admin (change.Disable name disabled))

unfoldable pub reserve_in : Data → Option Request
reserve_in d = do
  items ← items_at (codes "cidrs") d
  cidrs ← cidrs_after [] items
  name ← text_at (codes "name") d
  reservation ← named_cidrs name cidrs
  Some (request.Admin (change.Reserve reservation))

unfoldable pub settings_in : Data → Option Settings
settings_in d = do
  auto ← truth_or true (codes "autoAllocateBlocks") d
  max_blocks ← number_or_0 (codes "maxBlocksPerHost") d
  strict ← truth_or false (codes "strictAffinity") d
  Some (record { strict = strict; auto = auto; max_blocks = max_blocks })

-- the request that an object of this shape holds
abbrev pub shaped_in : Shape → Data → Option Request
shaped_in Add d = any_add_in d
shaped_in Del d = option_map request.Del (text_at (codes "handle") d)
shaped_in Check d = check_in d
shaped_in Release d = release_in d
shaped_in Collect d = option_map request.Collect (collect_in d)
shaped_in Probe d = option_map request.Probe (probe_in d)
shaped_in Pool d = option_map (λ pool. request.Admin (change.Pool pool)) (one_pool_in d)
shaped_in Disable d = disable_in d
shaped_in Reserve d = reserve_in d
shaped_in Unreserve d = option_map (λ name. request.Admin (change.Unreserve name)) (text_at (codes "name") d)
shaped_in Config d = option_map (λ settings. request.Admin (change.Config settings)) (settings_in d)
shaped_in Scope d = None

-- the request that an object of this shape holds, where its members are all known
unfoldable pub known_in : Shape → Data → Option Request
known_in shape d = do
  members ← as_object d
  known ← only_if (are_known shape members) d
  shaped_in shape known

-- the request that stands under the name
unfoldable pub named_in : List ℕ → Data → Option Request
named_in name d = do
  shape ← shape_named name
  known_in shape d

-- the request that the JSON holds, sound or not
unfoldable pub request_in_data : Data → Option Request
request_in_data d = do
  members ← as_object d
  only ← only_member members
  named_in only.0 only.1

-- the request that the JSON holds, where it is sound
unfoldable pub sound_request_in : Data → Option Request
sound_request_in d = do
  found ← request_in_data d
  only_if (is_sound_request found) found

-- the request whose text this is
unfoldable pub request_reading : List ℕ → Option Request
request_reading text = do
  d ← read text
  sound_request_in d

-- the request whose text these bytes are; bytes that are no UTF-8 have none
unfoldable pub request_of_bytes : List ℕ → Option Request
request_of_bytes bytes = do
  text ← only_if (is_utf8 bytes) bytes
  request_reading text
