-- What a good call asks. Of a call that was tested, nothing that is looked for here is missing.
use Rattle.std.specs.Prelude.{ℕ, List, [], ◌∷◌, ◌++◌, codes, Option, Some, None, option_and_then, unwrap_or}
use Rattle.serde_json.specs.Data.{Data, Items, no_items, item, Members, no_members, member}
use Rattle.serde_json.specs.Find.{get, as_array, as_object}
use Rattle.ipam_addr.specs.Shape.{AddrValue}
use Rattle.ipam_addr.specs.Text.{address_of}
use Rattle.cni_types.specs.declared.calls.CniAdd.{CniAdd}
use Rattle.cni_types.specs.declared.calls.CniCheck.{CniCheck}
use Rattle.cni_types.specs.declared.calls.CniDel.{CniDel}
use Rattle.cni_types.specs.declared.calls.CniGc.{CniGc}
use Rattle.cni_types.specs.declared.calls.CniStatus.{CniStatus}
use Rattle.cni_types.specs.declared.calls.Look.{Look}
use Rattle.cni_types.specs.declared.calls.Look.TheVariants as look
use Rattle.cni_types.specs.declared.command.Command.{Command}
use Rattle.cni_types.specs.declared.command.Command.TheVariants.{Add, Del, Check, Version, Gc, Status}
use Rattle.cni_types.specs.declared.refusal.Variable.TheVariants.{ContainerId, Args}
use Rattle.cni_types.specs.declared.version.Version as versions
use Rattle.cni_types.specs.Reading.{Pair, text_or_empty, text_or_empty_at, inside}
use Rattle.cni_types.specs.Environment.{variable, argument}
use Rattle.cni_types.specs.Configuration.{wants_ipv4, wants_ipv6, address_with_prefix_in}

-- the name of a network, a dot and the id of a container
abbrev pub container_handle : (network container : List ℕ) → List ℕ
container_handle network container = network ++ codes "." ++ container

-- the handle of the call's own container
abbrev pub handle_asked : List Pair → Data → List ℕ
handle_asked env d = container_handle (text_or_empty_at (codes "name") d) (variable ContainerId env)

-- the items that were found, or none
abbrev pub items_found : Option Data → Items
items_found o = unwrap_or (option_and_then as_array o) no_items

-- the texts, and after them those that the items are
abbrev pub listed_texts_after : List (List ℕ) → Items → List (List ℕ)
listed_texts_after texts no_items = texts
listed_texts_after texts (item d ds) = listed_texts_after (texts ++ text_or_empty d ∷ []) ds

-- the pools of this name
abbrev pub pools_asked : List ℕ → Data → List (List ℕ)
pools_asked name d = listed_texts_after [] (items_found (inside (codes "ipam") name d))

-- the labels, and after them those that the members are
abbrev pub labels_after : List Pair → Members → List Pair
labels_after labels no_members = labels
labels_after labels (member key d ms) = labels_after (labels ++ (key, text_or_empty d) ∷ []) ms

abbrev pub labels_found : Option Members → List Pair
labels_found None = []
labels_found (Some ms) = labels_after [] ms

-- the labels of the node
abbrev pub labels_asked : Data → List Pair
labels_asked d = labels_found (option_and_then as_object (get (codes "nodeLabels") d))

-- the key with the value, unless the value is empty
abbrev pub unless_empty : List ℕ → List ℕ → List Pair
unless_empty key [] = []
unless_empty key (c ∷ value) = (key, c ∷ value) ∷ []

-- the value of a key of the arguments
abbrev pub argument_asked : List ℕ → List Pair → List ℕ
argument_asked key env = argument key (variable Args env)

-- what an address is recorded with
unfoldable pub secondary_asked : List Pair → Data → List Pair
secondary_asked env d =
    unless_empty (codes "namespace") (argument_asked (codes "K8S_POD_NAMESPACE") env)
    ++ (codes "network", text_or_empty_at (codes "name") d) ∷ (codes "node", text_or_empty_at (codes "nodename") d)
    ∷ unless_empty (codes "pod") (argument_asked (codes "K8S_POD_NAME") env)

unfoldable pub add_asked : versions.Version → List Pair → Data → CniAdd
add_asked version env d = record {
  version = version;
  handle = handle_asked env d;
  node = text_or_empty_at (codes "nodename") d;
  secondary = secondary_asked env d;
  labels = labels_asked d;
  ipv4 = wants_ipv4 d;
  ipv6 = wants_ipv6 d;
  pools4 = pools_asked (codes "ipv4_pools") d;
  pools6 = pools_asked (codes "ipv6_pools") d;
  address = address_of (argument_asked (codes "IP") env);
}

abbrev pub del_asked : versions.Version → List Pair → Data → CniDel
del_asked version env d = record { version = version; handle = handle_asked env d }

abbrev pub with_address : List AddrValue → Option AddrValue → List AddrValue
with_address addresses None = addresses
with_address addresses (Some a) = addresses ++ a ∷ []

-- the addresses, and after them those that the items have
abbrev pub listed_addresses_after : List AddrValue → Items → List AddrValue
listed_addresses_after addresses no_items = addresses
listed_addresses_after addresses (item d ds) = listed_addresses_after (with_address addresses (address_with_prefix_in d)) ds

abbrev pub check_asked : versions.Version → List Pair → Data → CniCheck
check_asked version env d = record {
  version = version;
  handle = handle_asked env d;
  addresses = listed_addresses_after [] (items_found (inside (codes "prevResult") (codes "ips") d));
}

-- the handles, and after them those of the attachments
abbrev pub live_after : List ℕ → List (List ℕ) → Items → List (List ℕ)
live_after network live no_items = live
live_after network live (item d ds) =
    live_after network (live ++ container_handle network (text_or_empty_at (codes "containerID") d) ∷ []) ds

abbrev pub gc_asked : versions.Version → Data → CniGc
gc_asked version d = record {
  version = version;
  network = text_or_empty_at (codes "name") d;
  node = text_or_empty_at (codes "nodename") d;
  live = live_after (text_or_empty_at (codes "name") d) [] (items_found (get (codes "cni.dev/valid-attachments") d));
}

abbrev pub status_asked : versions.Version → Data → CniStatus
status_asked version d = record {
  version = version;
  node = text_or_empty_at (codes "nodename") d;
  labels = labels_asked d;
  ipv4 = wants_ipv4 d;
  ipv6 = wants_ipv6 d;
  pools4 = pools_asked (codes "ipv4_pools") d;
  pools6 = pools_asked (codes "ipv6_pools") d;
}

-- what the command asks
abbrev pub asked : Command → versions.Version → List Pair → Data → Look
asked Add version env d = look.Add (add_asked version env d)
asked Del version env d = look.Del (del_asked version env d)
asked Check version env d = look.Check (check_asked version env d)
asked Version version env d = look.Version version
asked Gc version env d = look.Gc (gc_asked version d)
asked Status version env d = look.Status (status_asked version d)
