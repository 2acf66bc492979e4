-- No request's JSON has a float, so that its compact text is written.
use Rattle.std.proofs.Common.{◌≡◌, ℕ, Bool, false, true, List, length, refl, ap, ◌==◌, codes, Option, Some, None}
use Rattle.serde_json.specs.Data.{Data, boolean, string, object, Members, no_members, put}
use Rattle.serde_json.specs.Written.{has_float, members_have_float}
use Rattle.ipam_addr.specs.Shape.{AddrValue, CidrValue}
use Rattle.ipam_select.specs.Formula.{Formula}
use Rattle.ipam_json.proofs.Floatless.{items_without, put_without, fold_without}
use Rattle.ipam_select.specs.Every.{is_every}
use Rattle.ipam_pool.specs.declared.pools.Mode.{Mode}
use Rattle.ipam_pool.specs.declared.pools.Mode.TheVariants.{Automatic, Manual}
use Rattle.ipam_pool.specs.declared.pools.Pool.{Pool as OnePool}
use Rattle.ipam_record_text.specs.declared.config.Config.{Config as Settings}
use Rattle.ipam_model.specs.Pairs.{Pair}
use Rattle.ipam_model.specs.declared.request.AddRequest.{AddRequest}
use Rattle.ipam_model.specs.declared.request.Admin.{Admin}
use Rattle.ipam_model.specs.declared.request.Admin.TheVariants as change
use Rattle.ipam_model.specs.declared.request.CollectRequest.{CollectRequest}
use Rattle.ipam_model.specs.declared.request.ProbeRequest.{ProbeRequest}
use Rattle.ipam_model.specs.declared.request.Request.{Request}
use Rattle.ipam_model.specs.declared.request.Request.TheVariants.{Add, AddThis, Del, Check, Release, Collect, Admin as Change, Probe}
use Rattle.ipam_json.specs.Built.{whole_data}
use Rattle.ipam_record_text.specs.Reservations.{cidr_data}
use Rattle.ipam_request_text.specs.Parts.{texts_data, pairs_data, address_data, scope_data, selector_data}
use Rattle.ipam_request_text.specs.Members.{unless, where_true, where_false, where_some_number, where_some_texts, where_some_pairs, where_manual, where_selective, where_scope, wishes}
use Rattle.ipam_request_text.specs.Requests.{add_members, collect_members, probe_members, pool_members, config_members, change_data, request_data}

pub has_float-texts_data : (texts : List (List ℕ)) → has_float (texts_data texts) ≡ false
has_float-texts_data texts = items_without string (λ t. refl) texts

unless_without : (b : Bool) (name : List ℕ) (d : Data) (ms : Members) → has_float d ≡ false → members_have_float ms ≡ false → members_have_float (unless b name d ms) ≡ false
unless_without true name d ms h g = g
unless_without false name d ms h g = put_without name d ms h g

true_without : (b : Bool) (name : List ℕ) (ms : Members) → members_have_float ms ≡ false → members_have_float (where_true b name ms) ≡ false
true_without true name ms g = put_without name (boolean true) ms refl g
true_without false name ms g = g

false_without : (b : Bool) (name : List ℕ) (ms : Members) → members_have_float ms ≡ false → members_have_float (where_false b name ms) ≡ false
false_without true name ms g = g
false_without false name ms g = put_without name (boolean false) ms refl g

number_without : (n : ℕ) (name : List ℕ) (ms : Members) → members_have_float ms ≡ false → members_have_float (where_some_number n name ms) ≡ false
number_without n name ms g = unless_without (n == 0) name (whole_data n) ms refl g

texts_without : (texts : List (List ℕ)) (name : List ℕ) (ms : Members) → members_have_float ms ≡ false → members_have_float (where_some_texts texts name ms) ≡ false
texts_without texts name ms g = unless_without (length texts == 0) name (texts_data texts) ms (has_float-texts_data texts) g

pairs_without : (pairs : List Pair) (name : List ℕ) (ms : Members) → members_have_float ms ≡ false → members_have_float (where_some_pairs pairs name ms) ≡ false
pairs_without pairs name ms g = unless_without (length pairs == 0) name (pairs_data pairs) ms (fold_without {A = Pair} (λ p. p.0) (λ p. string p.1) (λ p. refl) no_members pairs refl) g

mode_without : (mode : Mode) (ms : Members) → members_have_float ms ≡ false → members_have_float (where_manual mode ms) ≡ false
mode_without Automatic ms g = g
mode_without Manual ms g = put_without (codes "mode") (string (codes "Manual")) ms refl g

scope_without : (scope : Option (List ℕ × List ℕ)) (ms : Members) → members_have_float ms ≡ false → members_have_float (where_scope scope ms) ≡ false
scope_without None ms g = g
scope_without (Some scope) ms g = put_without (codes "scope") (scope_data scope) ms refl g

wishes_without : (ipv4 ipv6 : Bool) (labels : List Pair) (pools4 pools6 : List (List ℕ)) (ms : Members) → members_have_float ms ≡ false → members_have_float (wishes ipv4 ipv6 labels pools4 pools6 ms) ≡ false
unfolding wishes
wishes_without ipv4 ipv6 labels pools4 pools6 ms g =
    texts_without pools6 _ _ (texts_without pools4 _ _ (pairs_without labels _ _ (true_without ipv6 _ _ (false_without ipv4 _ ms g))))

add_without : (r : AddRequest) → members_have_float (add_members r) ≡ false
unfolding add_members
add_without r =
    let named = put (codes "node") (string r.node) (put (codes "handle") (string r.attributes.handle) no_members) in
    pairs_without r.attributes.secondary (codes "secondary") (wishes r.ipv4 r.ipv6 r.labels r.pools4 r.pools6 named) (wishes_without r.ipv4 r.ipv6 r.labels r.pools4 r.pools6 named refl)

collect_without : (r : CollectRequest) → members_have_float (collect_members r) ≡ false
unfolding collect_members
collect_without r = scope_without r.scope _ (number_without r.grace _ _ (number_without r.at _ _ (put_without (codes "live") (texts_data r.live) no_members (has_float-texts_data r.live) refl)))

probe_without : (r : ProbeRequest) → members_have_float (probe_members r) ≡ false
unfolding probe_members
probe_without r = wishes_without r.ipv4 r.ipv6 r.labels r.pools4 r.pools6 (put (codes "node") (string r.node) no_members) refl

pool_without : (p : OnePool) → members_have_float (pool_members p) ≡ false
unfolding pool_members
pool_without p =
    unless_without (is_every p.selector) (codes "selector") (selector_data p.selector) _ refl (mode_without p.mode _ (true_without p.disabled _ _ refl))

config_without : (c : Settings) → members_have_float (config_members c) ≡ false
unfolding config_members
config_without c = true_without c.strict _ _ (number_without c.max_blocks _ _ (false_without c.auto _ no_members refl))

change_without : (request : Admin) → has_float (change_data request) ≡ false
change_without (change.Pool pool) = rw (pool_without pool) refl
change_without (change.Disable name disabled) = refl
change_without (change.Reserve reservation) = rw (items_without cidr_data (λ r. refl) reservation.cidrs) refl
change_without (change.Unreserve name) = refl
change_without (change.Config settings) = rw (config_without settings) refl

pub has_float-request_data : (request : Request) → has_float (request_data request) ≡ false
has_float-request_data (Add request) = rw (add_without request) refl
has_float-request_data (AddThis request address) = rw (put_without (codes "address") (address_data address) (add_members request) refl (add_without request)) refl
has_float-request_data (Del id) = refl
has_float-request_data (Check id addresses) = rw (items_without address_data (λ a. refl) addresses) refl
has_float-request_data (Release node cidr) = refl
has_float-request_data (Collect request) = rw (collect_without request) refl
has_float-request_data (Change request) = change_without request
has_float-request_data (Probe request) = rw (probe_without request) refl
