-- The JSON of a sound request is canonical, so that its text is read as it.
use Rattle.std.proofs.Common.{◌≡◌, ℕ, ◌^◌, ◌<◌, ◌==◌, Bool, true, false, List, [], ◌∷◌, codes, length, map, Option, Some, None, refl, arith}
use Rattle.std.specs.Prelude.{fold}
use Rattle.std.specs.List.{AllByRecursion}
use Rattle.serde_json.specs.Data.{Data, boolean, string, object, Members, no_members, member, put}
use Rattle.ipam_json.specs.Canonical.{IsCanonical, IsCanonicalWithin}
use Rattle.ipam_json.proofs.Constructors.{IsCanonicalWithin-array, IsCanonicalWithin-string, IsCanonicalWithin-boolean, IsCanonicalWithin-number, IsCanonicalWithin-object, IsCanonicalWithin-put, IsCanonicalWithin-more, AllByRecursion-map}
use Rattle.ipam_addr.specs.Shape.{AddrValue, CidrValue}
use Rattle.ipam_select.specs.Formula.{Formula}
use Rattle.ipam_select.specs.Every.{is_every}
use Rattle.ipam_pool.specs.declared.pools.Mode.{Mode}
use Rattle.ipam_pool.specs.declared.pools.Mode.TheVariants.{Automatic, Manual}
use Rattle.ipam_pool.specs.declared.pools.Pool.{Pool as OnePool}
use Rattle.ipam_record_text.specs.declared.config.Config.{Config as Settings}
use Rattle.ipam_model.specs.Pairs.{Pair}
use Rattle.ipam_model.specs.SoundRequest.{IsSoundChange, IsSoundRequest}
use Rattle.ipam_model.specs.declared.request.AddRequest.{AddRequest}
use Rattle.ipam_model.specs.declared.request.Admin.{Admin}
use Rattle.ipam_model.specs.declared.request.Admin.TheVariants as change
use Rattle.ipam_model.specs.declared.request.CollectRequest.{CollectRequest}
use Rattle.ipam_model.specs.declared.request.ProbeRequest.{ProbeRequest}
use Rattle.ipam_model.specs.declared.request.Request.{Request}
use Rattle.ipam_model.specs.declared.request.Request.TheVariants.{Add, AddThis, Del, Check, Release, Collect, Admin as Change, Probe}
use Rattle.ipam_json.specs.Built.{whole_data, tagged}
use Rattle.ipam_block_text.specs.Body.{with_pair}
use Rattle.ipam_record_text.specs.Reservations.{cidr_data}
use Rattle.ipam_request_text.specs.Parts.{texts_data, pairs_data, address_data, addresses_data, cidrs_data, scope_data, selector_data}
use Rattle.ipam_request_text.specs.Members.{unless, where_true, where_false, where_some_number, where_some_texts, where_some_pairs, where_manual, where_selective, where_scope, wishes}
use Rattle.ipam_request_text.specs.Requests.{add_members, collect_members, probe_members, pool_members, config_members, change_data, request_data}

-- members that nest at most one level deep
abbrev pub Flat : Members → Type 0
Flat ms = IsCanonicalWithin 2 (object ms)

none_flat : Flat no_members
none_flat = IsCanonicalWithin-object 1 2 [] (omega arith) tt tt

flat_put : (k : List ℕ) (d : Data) (ms : Members) → IsCanonicalWithin 1 d → Flat ms → Flat (put k d ms)
flat_put k d ms h g = IsCanonicalWithin-put 1 2 k d ms (omega arith) h g

text_flat : (t : List ℕ) → IsCanonicalWithin 1 (string t)
text_flat t = IsCanonicalWithin-string 1 t

texts_flat : (ts : List (List ℕ)) → IsCanonicalWithin 1 (texts_data ts)
texts_flat ts =
    IsCanonicalWithin-array 0 1 (map string ts) (omega arith) (AllByRecursion-map (IsCanonicalWithin 0) string ts (λ t. IsCanonicalWithin-string 0 t))

addresses_flat : (all : List AddrValue) → IsCanonicalWithin 1 (addresses_data all)
addresses_flat all =
    IsCanonicalWithin-array 0 1 (map address_data all) (omega arith) (AllByRecursion-map (IsCanonicalWithin 0) address_data all (λ a. IsCanonicalWithin-string 0 _))

cidrs_flat : (all : List CidrValue) → IsCanonicalWithin 1 (cidrs_data all)
cidrs_flat all =
    IsCanonicalWithin-array 0 1 (map cidr_data all) (omega arith) (AllByRecursion-map (IsCanonicalWithin 0) cidr_data all (λ r. IsCanonicalWithin-string 0 _))

pairs_fold_flat : (ms : Members) (pairs : List Pair) → IsCanonicalWithin 1 (object ms) → IsCanonicalWithin 1 (object (fold with_pair ms pairs))
pairs_fold_flat ms [] h = h
pairs_fold_flat ms (p ∷ pairs) h =
    pairs_fold_flat (put p.0 (string p.1) ms) pairs (IsCanonicalWithin-put 0 1 p.0 (string p.1) ms (omega arith) (IsCanonicalWithin-string 0 p.1) h)

pairs_flat : (pairs : List Pair) → IsCanonicalWithin 1 (pairs_data pairs)
pairs_flat pairs = pairs_fold_flat no_members pairs (IsCanonicalWithin-object 0 1 [] (omega arith) tt tt)

scope_flat : (scope : List ℕ × List ℕ) → IsCanonicalWithin 1 (scope_data scope)
scope_flat scope =
    IsCanonicalWithin-object 0 1 ((codes "network", string scope.0) ∷ (codes "node", string scope.1) ∷ []) (omega arith) (refl, tt) (IsCanonicalWithin-string 0 scope.0, (IsCanonicalWithin-string 0 scope.1, tt))

flat_unless : (b : Bool) (k : List ℕ) (d : Data) (ms : Members) → IsCanonicalWithin 1 d → Flat ms → Flat (unless b k d ms)
flat_unless true k d ms h g = g
flat_unless false k d ms h g = flat_put k d ms h g

flat_true : (b : Bool) (k : List ℕ) (ms : Members) → Flat ms → Flat (where_true b k ms)
flat_true true k ms g = flat_put k (boolean true) ms (IsCanonicalWithin-boolean 1 true) g
flat_true false k ms g = g

flat_false : (b : Bool) (k : List ℕ) (ms : Members) → Flat ms → Flat (where_false b k ms)
flat_false true k ms g = g
flat_false false k ms g = flat_put k (boolean false) ms (IsCanonicalWithin-boolean 1 false) g

flat_number : (n : ℕ) (k : List ℕ) (ms : Members) → n < 2 ^ 64 → Flat ms → Flat (where_some_number n k ms)
flat_number n k ms small g = flat_unless (n == 0) k (whole_data n) ms (IsCanonicalWithin-number 1 n small) g

flat_mode : (mode : Mode) (ms : Members) → Flat ms → Flat (where_manual mode ms)
flat_mode Automatic ms g = g
flat_mode Manual ms g = flat_put (codes "mode") (string (codes "Manual")) ms (text_flat (codes "Manual")) g

flat_scope : (s : Option (List ℕ × List ℕ)) (ms : Members) → Flat ms → Flat (where_scope s ms)
flat_scope None ms g = g
flat_scope (Some scope) ms g = flat_put (codes "scope") (scope_data scope) ms (scope_flat scope) g

wishes_flat : (ipv4 ipv6 : Bool) (labels : List Pair) (pools4 pools6 : List (List ℕ)) (ms : Members) → Flat ms → Flat (wishes ipv4 ipv6 labels pools4 pools6 ms)
unfolding wishes
wishes_flat ipv4 ipv6 labels pools4 pools6 ms g =
    flat_unless (length pools6 == 0) _ _ _ (texts_flat pools6) (flat_unless (length pools4 == 0) _ _ _ (texts_flat pools4) (flat_unless (length labels == 0) _ _ _ (pairs_flat labels) (flat_true ipv6 _ _ (flat_false ipv4 _ ms g))))

add_flat : (r : AddRequest) → Flat (add_members r)
unfolding add_members
add_flat r =
    flat_unless (length r.attributes.secondary == 0) _ _ _ (pairs_flat r.attributes.secondary) (wishes_flat r.ipv4 r.ipv6 r.labels r.pools4 r.pools6 _ (flat_put (codes "node") (string r.node) _ (text_flat r.node) (flat_put (codes "handle") (string r.attributes.handle) no_members (text_flat r.attributes.handle) none_flat)))

collect_flat : (r : CollectRequest) → r.at < 2 ^ 64 → r.grace < 2 ^ 64 → Flat (collect_members r)
unfolding collect_members
collect_flat r at grace =
    flat_scope r.scope _ (flat_number r.grace _ _ grace (flat_number r.at _ _ at (flat_put (codes "live") (texts_data r.live) no_members (texts_flat r.live) none_flat)))

probe_flat : (r : ProbeRequest) → Flat (probe_members r)
unfolding probe_members
probe_flat r =
    wishes_flat r.ipv4 r.ipv6 r.labels r.pools4 r.pools6 _ (flat_put (codes "node") (string r.node) no_members (text_flat r.node) none_flat)

pool_flat : (p : OnePool) → p.size < 2 ^ 8 → Flat (pool_members p)
unfolding pool_members
pool_flat p small =
    flat_unless (is_every p.selector) (codes "selector") (selector_data p.selector) _ (text_flat _) (flat_mode p.mode _ (flat_true p.disabled _ _ (flat_put (codes "size") (whole_data p.size) _ (IsCanonicalWithin-number 1 p.size (omega (arith, small))) (flat_put (codes "name") (string p.name) _ (text_flat p.name) (flat_put (codes "cidr") (cidr_data p.cidr) no_members (text_flat _) none_flat)))))

config_flat : (c : Settings) → c.max_blocks < 2 ^ 32 → Flat (config_members c)
unfolding config_members
config_flat c small = flat_true c.strict _ _ (flat_number c.max_blocks _ _ (omega (arith, small)) (flat_false c.auto _ no_members none_flat))

tagged_canonical : (name : List ℕ) (ms : Members) → Flat ms → IsCanonical (tagged name (object ms))
tagged_canonical name ms h =
    IsCanonicalWithin-object 2 _ ((name, object ms) ∷ []) (omega arith) tt (h, tt)

one_flat : (k : List ℕ) (d : Data) → IsCanonicalWithin 1 d → Flat (member k d no_members)
one_flat k d h = IsCanonicalWithin-object 1 2 ((k, d) ∷ []) (omega arith) tt (h, tt)

change_canonical : (r : Admin) → IsSoundChange r → IsCanonical (change_data r)
change_canonical (change.Pool pool) h = tagged_canonical (codes "pool") _ (pool_flat pool h.size)
change_canonical (change.Disable name disabled) h =
    tagged_canonical (codes "disable") _ (flat_put (codes "name") (string name) _ (text_flat name) (one_flat (codes "disabled") (boolean disabled) (IsCanonicalWithin-boolean 1 disabled)))
change_canonical (change.Reserve r) h =
    tagged_canonical (codes "reserve") _ (flat_put (codes "name") (string r.name) _ (text_flat r.name) (one_flat (codes "cidrs") (cidrs_data r.cidrs) (cidrs_flat r.cidrs)))
change_canonical (change.Unreserve name) h = tagged_canonical (codes "unreserve") _ (one_flat (codes "name") (string name) (text_flat name))
change_canonical (change.Config settings) h = tagged_canonical (codes "config") _ (config_flat settings h)

pub request_canonical : (r : Request) → IsSoundRequest r → IsCanonical (request_data r)
request_canonical (Add r) h = tagged_canonical (codes "add") _ (add_flat r)
request_canonical (AddThis r address) h =
    tagged_canonical (codes "add") _ (flat_put (codes "address") (address_data address) (add_members r) (text_flat _) (add_flat r))
request_canonical (Del id) h = tagged_canonical (codes "del") _ (one_flat (codes "handle") (string id) (text_flat id))
request_canonical (Check id addresses) h =
    tagged_canonical (codes "check") _ (flat_put (codes "handle") (string id) _ (text_flat id) (one_flat (codes "addresses") (addresses_data addresses) (addresses_flat addresses)))
request_canonical (Release node cidr) h =
    tagged_canonical (codes "release") _ (flat_put (codes "node") (string node) _ (text_flat node) (one_flat (codes "cidr") (cidr_data cidr) (text_flat _)))
request_canonical (Collect r) h = tagged_canonical (codes "collect") _ (collect_flat r h.at h.grace)
request_canonical (Change r) h = change_canonical r h
request_canonical (Probe r) h = tagged_canonical (codes "probe") _ (probe_flat r)
