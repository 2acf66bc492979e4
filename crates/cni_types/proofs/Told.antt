-- What lists and objects decide by their sizes and their parts, and what a call asks by its parts.
use Rattle.std.proofs.Common.{◌≡◌, ◌∙◌, ℕ, List, true, false, Bool, ◌&&◌, Option, Some, ap, refl}
use Rattle.serde_json.specs.Data.{Data, Items, Members}
use Rattle.serde_json.specs.Find.{as_array, as_object}
use Rattle.ipam_addr.specs.Shape.{AddrValue}
use Rattle.cni_types.specs.declared.calls.CniCheck.{CniCheck}
use Rattle.cni_types.specs.declared.calls.CniGc.{CniGc}
use Rattle.cni_types.specs.declared.version.Version.{Version}
use Rattle.cni_types.specs.Reading.{are_few, are_few_members}
use Rattle.cni_types.specs.Configuration.{are_all_labels, are_label_members, are_labels, are_all_pools, are_pool_items, are_pools, are_all_addresses, are_address_items, are_addresses}

pub pools_told : (o : Option Data) (d : Data) (ds : Items) (all : Bool) → Some d ≡ o → Some ds ≡ as_array d → true ≡ are_few 64 ds → all ≡ are_all_pools ds → all ≡ are_pools o
pools_told o d ds all found listed few h =
    h ∙ ap (λ b. b && are_all_pools ds) few ∙ ap are_pool_items listed ∙ ap are_pools found

pub addresses_told : (o : Option Data) (d : Data) (ds : Items) (all : Bool) → Some d ≡ o → Some ds ≡ as_array d → true ≡ are_few 64 ds → all ≡ are_all_addresses ds → all ≡ are_addresses o
addresses_told o d ds all found listed few h =
    h ∙ ap (λ b. b && are_all_addresses ds) few ∙ ap are_address_items listed ∙ ap are_addresses found

pub labels_told : (o : Option Data) (d : Data) (ms : Members) → Some d ≡ o → Some ms ≡ as_object d → true ≡ are_few_members ms → are_all_labels ms ≡ are_labels o
labels_told o d ms found listed few =
    ap (λ b. b && are_all_labels ms) few ∙ ap are_label_members listed ∙ ap are_labels found

pub labels_many : (o : Option Data) (d : Data) (ms : Members) → Some d ≡ o → Some ms ≡ as_object d → false ≡ are_few_members ms → false ≡ are_labels o
labels_many o d ms found listed few =
    ap (λ b. b && are_all_labels ms) few ∙ ap are_label_members listed ∙ ap are_labels found

pub same_check : (version : Version) (h k : List ℕ) (a b : List AddrValue) → h ≡ k → a ≡ b → ◌≡◌ {A = CniCheck} record { version = version; handle = h; addresses = a } record { version = version; handle = k; addresses = b }
same_check version h k a b e f = rw e (rw f refl)

pub same_gc : (version : Version) (n m : List ℕ) (h k : List ℕ) (a b : List (List ℕ)) → n ≡ m → h ≡ k → a ≡ b → ◌≡◌ {A = CniGc} record { version = version; network = n; node = h; live = a } record { version = version; network = m; node = k; live = b }
same_gc version n m h k a b d e f = rw d (rw e (rw f refl))
