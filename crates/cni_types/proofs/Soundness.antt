-- What good calls ask is sound.
use Rattle.std.proofs.Common.{◌≡◌, ℕ, ◌≤◌, List, [], length, ◌&&◌, ◌||◌, Bool, true, false, Option, Some, None, option_and_then, codes, Result, Ok, Err, refl, ap, if◌then◌else◌}
use Rattle.std.specs.List.{list_all}
use Rattle.std.specs.List.Sorted.{IsStrictlySortedBy}
use Rattle.std.proofs.lemmas.Bool.{and_parts, leb-true}
use Rattle.serde_json.specs.Data.{Data, null, boolean, number, string, array, object, no_members}
use Rattle.serde_json.specs.Find.{get, as_object}
use Rattle.serde_json.specs.Read.{read}
use Rattle.ipam_addr.specs.Names.{is_name_text}
use Rattle.cni_types.specs.declared.calls.Look.{Look}
use Rattle.cni_types.specs.declared.command.Command.{Command}
use Rattle.cni_types.specs.declared.command.Command.TheVariants.{Add, Del, Check, Version, Gc, Status}
use Rattle.cni_types.specs.declared.refusal.Member.{Member}
use Rattle.cni_types.specs.declared.refusal.Member.TheVariants.{Name, NodeName, NodeLabels, AssignIpv4, AssignIpv6, Ipv4Pools, Ipv6Pools, PrevResult, PrevResultIps}
use Rattle.cni_types.specs.declared.refusal.Refusal.{Refusal}
use Rattle.cni_types.specs.declared.refusal.Variable.{Variable}
use Rattle.cni_types.specs.declared.refusal.Variable.TheVariants.{ContainerId, Netns, Ifname, Args}
use Rattle.cni_types.specs.declared.version.Version as versions
use Rattle.cni_types.specs.Reading.{Pair, ◌>>=◌, text_or_empty_at, inside, is_object, is_object_at, is_name_at}
use Rattle.cni_types.specs.Environment.{variable, argument, items_of, is_argument, is_address_asked, is_short_value, is_interface, is_namespace_there, are_arguments, container_tested, environment_tested}
use Rattle.cni_types.specs.Configuration.{are_labels, choice, wants_ipv4, wants_ipv6, are_pools, are_addresses, network_tested, families_tested, result_tested, attachments_tested, wishes_tested, check_tested, gc_tested, configuration_tested}
use Rattle.cni_types.specs.Asked.{labels_found, labels_asked, handle_asked, argument_asked, secondary_asked, add_asked, status_asked, asked}
use Rattle.cni_types.specs.Looking.{only_object, is_for_versions, input_text, object_in, decoded, compatible, in_configuration, in_environment, all_tested, tested, looked, or_error, look_from, command_in, look_reading}
use Rattle.cni_types.specs.Environment.{is_empty}
use Rattle.std.specs.Prelude.{is_some}
use Rattle.cni_types.specs.Sound.{KeysAscend, AreLabels, ArePairs, IsSoundAdd, IsSoundStatus, IsSoundLook, IsHandleId}
use Rattle.cni_types.proofs.Ascending.{NamesAscend, read-ascends, get-ascends, labels-ascend}
use Rattle.cni_types.proofs.Good.{passed, passed_last, passed_both, name_small, handle_of-sound, labels-sound, pools-sound, addresses-few, live-sound}
use Rattle.cni_types.proofs.Pairs.{recorded-sound}

-- ---- what the tests of the configuration tell

pub record IsNetwork (d : Data) : Type 0 where
  pub name : is_name_at (codes "name") d ≡ true
  pub node : is_name_at (codes "nodename") d ≡ true
  pub labels : are_labels (get (codes "nodeLabels") d) ≡ true

network-told : (d : Data) → network_tested d ≡ Ok tt → IsNetwork d
unfolding network_tested
network-told d h =
    let a = passed (is_name_at (codes "name") d) Name _ tt h in
    let b = passed (is_name_at (codes "nodename") d) NodeName _ tt a.1 in
    let c = passed (are_labels (get (codes "nodeLabels") d)) NodeLabels _ tt b.1 in
    record { name = a.0; node = b.0; labels = c.0 }

pub record AreWishes (d : Data) : Type 0 where
  pub some_family : (wants_ipv4 d || wants_ipv6 d) ≡ true
  pub pools4 : are_pools (inside (codes "ipam") (codes "ipv4_pools") d) ≡ true
  pub pools6 : are_pools (inside (codes "ipam") (codes "ipv6_pools") d) ≡ true

families-told : (d : Data) → families_tested d ≡ Ok tt → AreWishes d
unfolding families_tested
families-told d h =
    let a = passed (is_some (choice (codes "assign_ipv4") true d)) AssignIpv4 _ tt h in
    let b = passed (is_some (choice (codes "assign_ipv6") false d)) AssignIpv6 _ tt a.1 in
    let c = passed (wants_ipv4 d || wants_ipv6 d) AssignIpv4 _ tt b.1 in
    let e = passed (are_pools (inside (codes "ipam") (codes "ipv4_pools") d)) Ipv4Pools _ tt c.1 in
    let f = passed_last (are_pools (inside (codes "ipam") (codes "ipv6_pools") d)) Ipv6Pools tt e.1 in
    record { some_family = c.0; pools4 = e.0; pools6 = f }

wishes-told : (d : Data) → wishes_tested d ≡ Ok tt → IsNetwork d × AreWishes d
unfolding wishes_tested
wishes-told d h =
    let both = passed_both (network_tested d) (families_tested d) tt h in
    (network-told d both.0, families-told d both.1)

check-told : (d : Data) → check_tested d ≡ Ok tt → IsNetwork d × (are_addresses (inside (codes "prevResult") (codes "ips") d) ≡ true)
unfolding check_tested result_tested
check-told d h =
    let both = passed_both (wishes_tested d) (result_tested d) tt h in
    let a = passed (is_object_at (codes "prevResult") d) PrevResult _ tt both.1 in
    let b = passed_last (are_addresses (inside (codes "prevResult") (codes "ips") d)) PrevResultIps tt a.1 in
    ((wishes-told d both.0).0, b)

gc-told : (d : Data) → gc_tested d ≡ Ok tt → IsNetwork d × (attachments_tested d ≡ Ok tt)
unfolding gc_tested
gc-told d h =
    let both = passed_both (network_tested d) (attachments_tested d) tt h in
    (network-told d both.0, both.1)

-- ---- what the tests of the environment tell

pub record IsContainer (env : List Pair) : Type 0 where
  pub id : is_name_text (variable ContainerId env) ≡ true
  pub arguments : are_arguments (variable Args env) ≡ true

container-told : (needed : Bool) (env : List Pair) → container_tested needed env ≡ Ok tt → IsContainer env
unfolding container_tested
container-told needed env h =
    let a = passed (is_name_text (variable ContainerId env)) ContainerId _ tt h in
    let b = passed (is_namespace_there needed (variable Netns env)) Netns _ tt a.1 in
    let c = passed (is_interface (variable Ifname env)) Ifname _ tt b.1 in
    let e = passed_last (are_arguments (variable Args env)) Args tt c.1 in
    record { id = a.0; arguments = e }

arguments-short : (text : List ℕ) → are_arguments text ≡ true → (length (argument (codes "K8S_POD_NAMESPACE") text) ≤ 253) × (length (argument (codes "K8S_POD_NAME") text) ≤ 253)
unfolding are_arguments
arguments-short text h =
    let a = and_parts (list_all is_argument (items_of text) && is_address_asked (argument (codes "IP") text) && is_short_value (argument (codes "K8S_POD_NAMESPACE") text)) (is_short_value (argument (codes "K8S_POD_NAME") text)) h in
    let b = and_parts (list_all is_argument (items_of text) && is_address_asked (argument (codes "IP") text)) (is_short_value (argument (codes "K8S_POD_NAMESPACE") text)) a.0 in
    (leb-true _ _ b.1, leb-true _ _ a.1)

-- ---- the parts of what is asked

secondary-sound : (env : List Pair) (d : Data) → IsNetwork d → IsContainer env → ArePairs (secondary_asked env d)
unfolding secondary_asked
secondary-sound env d network container =
    let short = arguments-short (variable Args env) container.arguments in
    recorded-sound (argument_asked (codes "K8S_POD_NAMESPACE") env) (text_or_empty_at (codes "name") d) (text_or_empty_at (codes "nodename") d) (argument_asked (codes "K8S_POD_NAME") env) short.0 (name_small (text_or_empty_at (codes "name") d) network.name) (name_small (text_or_empty_at (codes "nodename") d) network.node) short.1

none_ascend : KeysAscend []
unfolding IsStrictlySortedBy
none_ascend = tt

found-ascend : (d x : Data) → NamesAscend d → get (codes "nodeLabels") d ≡ Some x → KeysAscend (labels_found (as_object x))
found-ascend d null up is = none_ascend
found-ascend d (boolean b) up is = none_ascend
found-ascend d (number n) up is = none_ascend
found-ascend d (string s) up is = none_ascend
found-ascend d (array ds) up is = none_ascend
found-ascend d (object ms) up is = labels-ascend ms (get-ascends (codes "nodeLabels") d (object ms) up is)

member-ascend : (d : Data) (o : Option Data) → NamesAscend d → get (codes "nodeLabels") d ≡ o → KeysAscend (labels_found (option_and_then as_object o))
member-ascend d None up is = none_ascend
member-ascend d (Some x) up is = found-ascend d x up is

labels_asked-sound : (d : Data) → NamesAscend d → IsNetwork d → AreLabels (labels_asked d)
labels_asked-sound d up network =
    let few = labels-sound (get (codes "nodeLabels") d) network.labels in
    record { few = few.few; each = few.each; ascending = member-ascend d (get (codes "nodeLabels") d) up refl }

handle-sound : (env : List Pair) (d : Data) → IsNetwork d → IsContainer env → IsHandleId (handle_asked env d)
handle-sound env d network container =
    handle_of-sound (text_or_empty_at (codes "name") d) (variable ContainerId env) network.name container.id

add-sound : (version : versions.Version) (env : List Pair) (d : Data) → NamesAscend d → IsNetwork d → AreWishes d → IsContainer env → IsSoundAdd (add_asked version env d)
unfolding add_asked
add-sound version env d up network wishes container = record {
  handle = handle-sound env d network container;
  node = network.node;
  secondary = secondary-sound env d network container;
  labels = labels_asked-sound d up network;
  pools4 = pools-sound (inside (codes "ipam") (codes "ipv4_pools") d) wishes.pools4;
  pools6 = pools-sound (inside (codes "ipam") (codes "ipv6_pools") d) wishes.pools6;
  some_family = wishes.some_family;
}

status-sound : (version : versions.Version) (d : Data) → NamesAscend d → IsNetwork d → AreWishes d → IsSoundStatus (status_asked version d)
status-sound version d up network wishes = record {
  node = network.node;
  labels = labels_asked-sound d up network;
  pools4 = pools-sound (inside (codes "ipam") (codes "ipv4_pools") d) wishes.pools4;
  pools6 = pools-sound (inside (codes "ipam") (codes "ipv6_pools") d) wishes.pools6;
  some_family = wishes.some_family;
}

-- ---- a whole call

bound : {A B E : Type 0} (m : Result A E) (f : A → Result B E) (v : B) → (m >>= f) ≡ Ok v → (a : A) × (m ≡ Ok a) × (f a ≡ Ok v)
bound (Ok a) f v h = (a, refl, h)
bound (Err e) f v h = absurd cc

configuration-passed : (m : Result (Unit {0}) Member) → in_configuration m ≡ Ok tt → m ≡ Ok tt
configuration-passed (Ok u) h = refl
configuration-passed (Err e) h = absurd cc

environment-passed : (m : Result (Unit {0}) Variable) → in_environment m ≡ Ok tt → m ≡ Ok tt
environment-passed (Ok u) h = refl
environment-passed (Err e) h = absurd cc

all-told : (command : Command) (env : List Pair) (d : Data) (version : versions.Version) → all_tested command env d ≡ Ok version → (configuration_tested command d ≡ Ok tt) × (environment_tested command env ≡ Ok tt)
unfolding all_tested
all-told command env d version h =
    let (v, is, after) = bound (compatible command d) _ version h in
    let a = passed_both (in_configuration (configuration_tested command d)) _ version after in
    let b = passed_both (in_environment (environment_tested command env)) _ version a.1 in
    (configuration-passed (configuration_tested command d) a.0, environment-passed (environment_tested command env) b.0)

asked-sound : (command : Command) (version : versions.Version) (env : List Pair) (d : Data) → NamesAscend d → tested command env d ≡ Ok version → IsSoundLook (asked command version env d)
asked-sound Add version env d up h =
    let told = all-told Add env d version h in
    let wishes = wishes-told d told.0 in
    add-sound version env d up wishes.0 wishes.1 (container-told true env told.1)
asked-sound Del version env d up h =
    let told = all-told Del env d version h in
    handle-sound env d (wishes-told d told.0).0 (container-told false env told.1)
asked-sound Check version env d up h =
    let told = all-told Check env d version h in
    let check = check-told d told.0 in
    record {
      handle = handle-sound env d check.0 (container-told true env told.1);
      few = addresses-few (inside (codes "prevResult") (codes "ips") d) check.1;
    }
asked-sound Version version env d up h = tt
asked-sound Gc version env d up h =
    let told = all-told Gc env d version h in
    let gc = gc-told d told.0 in
    record { network = gc.0.name; node = gc.0.node; live = live-sound d gc.0.name gc.1 }
asked-sound Status version env d up h =
    let told = all-told Status env d version h in
    let wishes = wishes-told d told.0 in
    status-sound version d up wishes.0 wishes.1

looked-sound : (command : Option Command) (env : List Pair) (d : Data) (look : Look) → NamesAscend d → looked command env d ≡ Ok look → IsSoundLook look
looked-sound None env d look up h = absurd cc
looked-sound (Some command) env d look up h =
    let (version, is, after) = bound (tested command env d) _ look h in
    let same : asked command version env d ≡ look = cc in
    rw (← same) (asked-sound command version env d up is)

no_error : (d : Data) (r : Result Look Refusal) (look : Look) → or_error d r ≡ Ok look → r ≡ Ok look
no_error d (Ok l) look h = let same : l ≡ look = cc in ap Ok same
no_error d (Err e) look h = absurd cc

from-sound : (command : Option Command) (env : List Pair) (o : Option Data) (look : Look) → ((d : Data) → o ≡ Some d → NamesAscend d) → look_from command env o ≡ Ok look → IsSoundLook look
from-sound command env None look up h = absurd cc
from-sound command env (Some d) look up h =
    looked-sound command env d look (up d refl) (no_error d (looked command env d) look h)

only_object-same : (o : Option Data) (d : Data) → option_and_then only_object o ≡ Some d → o ≡ Some d
only_object-same None d h = absurd cc
only_object-same (Some x) d h = go (is_object x) h
  where
    go : (b : Bool) → (if b then Some x else None) ≡ Some d → Some x ≡ Some d
    go true e = e
    go false e = absurd cc

input-ascends : (o : Option (List ℕ)) (d : Data) → option_and_then object_in o ≡ Some d → NamesAscend d
input-ascends None d h = absurd cc
input-ascends (Some text) d h = read-ascends text d (only_object-same (read text) d h)

decoded-ascends : (command : Option Command) (stdin : List ℕ) (d : Data) → decoded command stdin ≡ Some d → NamesAscend d
unfolding decoded
decoded-ascends command stdin d h = go (is_for_versions command && is_empty stdin) h
  where
    go : (b : Bool) → (if b then Some (object no_members) else option_and_then object_in (input_text stdin)) ≡ Some d → NamesAscend d
    go true e = let same : object no_members ≡ d = cc in rw (← same) tt
    go false e = input-ascends (input_text stdin) d e

pub look_reading-sound : (env : List Pair) (stdin : List ℕ) (look : Look) → look_reading env stdin ≡ Ok look → IsSoundLook look
unfolding look_reading
look_reading-sound env stdin look h =
    from-sound (command_in env) env (decoded (command_in env) stdin) look (λ d is. decoded-ascends (command_in env) stdin d is) h
