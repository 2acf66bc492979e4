-- A request is sound exactly where the tests pass.
use Rattle.std.proofs.Common.{◌≡◌, ◌∙◌, inl, inr, ℕ, ◌^◌, ◌%◌, ◌<◌, ◌≤◌, ◌==◌, Bool, true, false, ◌&&◌, ◌||◌, IsTrue, ◌↔◌, List, length, Option, Some, None, refl, sym, arith}
use Rattle.std.specs.Prelude.{All, nat_le, nat_lt, is_some, Ok, Err, Result, ◌⊎◌}
use Rattle.std.specs.List.{list_all}
use Rattle.std.proofs.lemmas.Bool.{and_parts, and_from, leb-true, le-leb, ltb-true, lt-ltb, eqb-true}
use Rattle.std.proofs.lemmas.List.Elements.{All-weaker}
use Rattle.std.proofs.lemmas.List.Sums.{AllPass-from_list_all, list_all-from_AllPass}
use Rattle.ipam_addr.specs.declared.cidrs.AddrFault.{AddrFault}
use Rattle.ipam_addr.specs.Shape.{AddrValue, CidrValue}
use Rattle.ipam_addr.specs.Text.{cidr_reading}
use Rattle.ipam_addr.specs.Width.{width, address_count, cidr_size, IsAddress, IsCidr}
use Rattle.ipam_addr.specs.Names.{is_name_text, is_handle_text}
use Rattle.ipam_block_text.specs.Limits.{keys_ascend, are_attributes}
use Rattle.ipam_block_text.proofs.Limited.{attributes_there, attributes_back}
use Rattle.ipam_block_text.proofs.PairKeys.{keys_sorted, sorted_keys}
use Rattle.ipam_select.specs.Sound.{is_sound}
use Rattle.ipam_pool.specs.declared.pools.Pool.{Pool as OnePool}
use Rattle.ipam_pool.specs.Shape.{ReservationValue}
use Rattle.ipam_record_text.specs.Blocks.{ok_cidr, cidr_of}
use Rattle.ipam_record_text.specs.Pools.{IsSoundPool}
use Rattle.ipam_records.specs.Sound.{IsHandleId, IsReservation}
use Rattle.ipam_model.specs.declared.request.AddRequest.{AddRequest}
use Rattle.ipam_model.specs.declared.request.Admin.{Admin}
use Rattle.ipam_model.specs.declared.request.Admin.TheVariants as change
use Rattle.ipam_model.specs.declared.request.CollectRequest.{CollectRequest}
use Rattle.ipam_model.specs.declared.request.ProbeRequest.{ProbeRequest}
use Rattle.ipam_model.specs.declared.request.Request.{Request}
use Rattle.ipam_model.specs.declared.request.Request.TheVariants.{Add, AddThis, Del, Check, Release, Collect, Admin as Change, Probe}
use Rattle.ipam_model.specs.Pairs.{Pair}
use Rattle.ipam_model.specs.SoundRequest.{is_key_byte, IsLabel, AreLabels, IsPoolName, ArePoolNames, IsSoundAdd, IsSoundProbe, IsScope, IsSoundCollect, IsSoundChange, IsSoundRequest}
use Rattle.ipam_request_text.specs.Tests.{is_address, is_cidr, is_label, are_sound_labels, is_pool_name, are_pool_names, is_sound_add, is_sound_probe, is_scope, is_sound_collect, is_sound_pool, is_sound_reservation, is_sound_change, is_sound_request}

-- ---- lists whose elements all pass

all_there : {A : Type 0} (P : A → Type 0) (p : A → Bool) → ((x : A) → P x → p x ≡ true) → (xs : List A) → All P xs → list_all p xs ≡ true
all_there P p there xs h = list_all-from_AllPass p xs (All-weaker P (λ x. p x ≡ true) there xs h)

all_back : {A : Type 0} (P : A → Type 0) (p : A → Bool) → ((x : A) → p x ≡ true → P x) → (xs : List A) → list_all p xs ≡ true → All P xs
all_back P p back xs h = All-weaker (λ x. p x ≡ true) P back xs (AllPass-from_list_all p xs h)

-- ---- addresses, labels and names of pools

address_there : (a : AddrValue) → IsAddress a → is_address a ≡ true
address_there a h = lt-ltb a.number (address_count a.family) h

address_back : (a : AddrValue) → is_address a ≡ true → IsAddress a
address_back a h = ltb-true a.number (address_count a.family) h

cidr_there : (r : CidrValue) → IsCidr r → is_cidr r ≡ true
cidr_there r h =
    and_from _ _ (and_from _ _ (le-leb r.prefix (width r.family) h.prefix_fits) (lt-ltb r.base (address_count r.family) h.base_fits)) (rw h.no_host_bits refl)

cidr_back : (r : CidrValue) → is_cidr r ≡ true → IsCidr r
cidr_back r h =
    let parts = and_parts (nat_le r.prefix (width r.family) && nat_lt r.base (address_count r.family)) (r.base % cidr_size r == 0) h in
    let fits = and_parts (nat_le r.prefix (width r.family)) (nat_lt r.base (address_count r.family)) parts.0 in
    record {
      prefix_fits = leb-true r.prefix (width r.family) fits.0;
      base_fits = ltb-true r.base (address_count r.family) fits.1;
      no_host_bits = eqb-true (r.base % cidr_size r) 0 parts.1;
    }

label_there : (l : Pair) → IsLabel l → is_label l ≡ true
label_there l h =
    and_from _ _ (and_from _ _ (and_from _ _ (lt-ltb 0 (length l.0) h.key_some) (le-leb (length l.0) 317 h.key_small)) h.key_bytes) (le-leb (length l.1) 253 h.value_small)

label_back : (l : Pair) → is_label l ≡ true → IsLabel l
label_back l h =
    let parts = and_parts (nat_lt 0 (length l.0) && nat_le (length l.0) 317 && list_all is_key_byte l.0) (nat_le (length l.1) 253) h in
    let key = and_parts (nat_lt 0 (length l.0) && nat_le (length l.0) 317) (list_all is_key_byte l.0) parts.0 in
    let long = and_parts (nat_lt 0 (length l.0)) (nat_le (length l.0) 317) key.0 in
    record {
      key_some = ltb-true 0 (length l.0) long.0;
      key_small = leb-true (length l.0) 317 long.1;
      key_bytes = key.1;
      value_small = leb-true (length l.1) 253 parts.1;
    }

labels_there : (ls : List Pair) → AreLabels ls → are_sound_labels ls ≡ true
labels_there ls h =
    and_from _ _ (and_from _ _ (le-leb (length ls) 64 h.few) (all_there IsLabel is_label label_there ls h.each)) (sorted_keys ls h.ascending)

labels_back : (ls : List Pair) → are_sound_labels ls ≡ true → AreLabels ls
labels_back ls h =
    let parts = and_parts (nat_le (length ls) 64 && list_all is_label ls) (keys_ascend ls) h in
    let each = and_parts (nat_le (length ls) 64) (list_all is_label ls) parts.0 in
    record {
      few = leb-true (length ls) 64 each.0;
      each = all_back IsLabel is_label label_back ls each.1;
      ascending = keys_sorted ls parts.1;
    }

pool_name_there : (text : List ℕ) → IsPoolName text → is_pool_name text ≡ true
unfolding cidr_of
pool_name_there text (inl name) = let is : is_name_text text ≡ true = name in rw is refl
pool_name_there text (inr (cidr, e)) = go (is_name_text text)
  where
    go : (b : Bool) → (b || is_some (cidr_of text)) ≡ true
    go true = refl
    go false = rw e refl

pool_name_back : (text : List ℕ) → is_pool_name text ≡ true → IsPoolName text
unfolding cidr_of
pool_name_back text h = go (is_name_text text) (cidr_reading text) refl refl h
  where
    go : (b : Bool) (r : Result CidrValue AddrFault) → is_name_text text ≡ b → cidr_reading text ≡ r → (b || is_some (ok_cidr r)) ≡ true → IsPoolName text
    go true r named read e = inl named
    go false (Ok cidr) named read e = inr (cidr, read)
    go false (Err fault) named read e = absurd cc

pool_names_there : (names : List (List ℕ)) → ArePoolNames names → are_pool_names names ≡ true
pool_names_there names h =
    and_from _ _ (le-leb (length names) 64 h.few) (all_there IsPoolName is_pool_name pool_name_there names h.each)

pool_names_back : (names : List (List ℕ)) → are_pool_names names ≡ true → ArePoolNames names
pool_names_back names h =
    let parts = and_parts (nat_le (length names) 64) (list_all is_pool_name names) h in
    record {
      few = leb-true (length names) 64 parts.0;
      each = all_back IsPoolName is_pool_name pool_name_back names parts.1;
    }

-- ---- each kind of request

add_there : (r : AddRequest) → IsSoundAdd r → is_sound_add r ≡ true
add_there r h =
    and_from _ _ (and_from _ _ (and_from _ _ (and_from _ _ h.node (attributes_there r.attributes h.attributes)) (labels_there r.labels h.labels)) (pool_names_there r.pools4 h.pools4)) (pool_names_there r.pools6 h.pools6)

add_back : (r : AddRequest) → is_sound_add r ≡ true → IsSoundAdd r
add_back r h =
    let pools6 = and_parts (is_name_text r.node && are_attributes r.attributes && are_sound_labels r.labels && are_pool_names r.pools4) (are_pool_names r.pools6) h in
    let pools4 = and_parts (is_name_text r.node && are_attributes r.attributes && are_sound_labels r.labels) (are_pool_names r.pools4) pools6.0 in
    let labels = and_parts (is_name_text r.node && are_attributes r.attributes) (are_sound_labels r.labels) pools4.0 in
    let names = and_parts (is_name_text r.node) (are_attributes r.attributes) labels.0 in
    record {
      node = names.0;
      attributes = attributes_back r.attributes names.1;
      labels = labels_back r.labels labels.1;
      pools4 = pool_names_back r.pools4 pools4.1;
      pools6 = pool_names_back r.pools6 pools6.1;
    }

probe_there : (r : ProbeRequest) → IsSoundProbe r → is_sound_probe r ≡ true
probe_there r h =
    and_from _ _ (and_from _ _ (and_from _ _ (and_from _ _ h.node (labels_there r.labels h.labels)) (pool_names_there r.pools4 h.pools4)) (pool_names_there r.pools6 h.pools6)) h.some_family

probe_back : (r : ProbeRequest) → is_sound_probe r ≡ true → IsSoundProbe r
probe_back r h =
    let family = and_parts (is_name_text r.node && are_sound_labels r.labels && are_pool_names r.pools4 && are_pool_names r.pools6) (r.ipv4 || r.ipv6) h in
    let pools6 = and_parts (is_name_text r.node && are_sound_labels r.labels && are_pool_names r.pools4) (are_pool_names r.pools6) family.0 in
    let pools4 = and_parts (is_name_text r.node && are_sound_labels r.labels) (are_pool_names r.pools4) pools6.0 in
    let names = and_parts (is_name_text r.node) (are_sound_labels r.labels) pools4.0 in
    record {
      node = names.0;
      labels = labels_back r.labels names.1;
      pools4 = pool_names_back r.pools4 pools4.1;
      pools6 = pool_names_back r.pools6 pools6.1;
      some_family = family.1;
    }

scope_there : (s : Option (List ℕ × List ℕ)) → IsScope s → is_scope s ≡ true
scope_there None h = refl
scope_there (Some scope) h = and_from _ _ h.0 h.1

scope_back : (s : Option (List ℕ × List ℕ)) → is_scope s ≡ true → IsScope s
scope_back None h = tt
scope_back (Some scope) h = and_parts (is_name_text scope.0) (is_name_text scope.1) h

ids_there : (ids : List (List ℕ)) → All IsHandleId ids → list_all is_handle_text ids ≡ true
ids_there ids h = all_there IsHandleId is_handle_text (λ id is. is) ids h

ids_back : (ids : List (List ℕ)) → list_all is_handle_text ids ≡ true → All IsHandleId ids
ids_back ids h = all_back IsHandleId is_handle_text (λ id is. is) ids h

collect_there : (r : CollectRequest) → IsSoundCollect r → is_sound_collect r ≡ true
collect_there r h =
    and_from _ _ (and_from _ _ (and_from _ _ (ids_there r.live h.live) (lt-ltb r.at (2 ^ 64) h.at)) (lt-ltb r.grace (2 ^ 64) h.grace)) (scope_there r.scope h.scope)

collect_back : (r : CollectRequest) → is_sound_collect r ≡ true → IsSoundCollect r
collect_back r h =
    let scope = and_parts (list_all is_handle_text r.live && nat_lt r.at (2 ^ 64) && nat_lt r.grace (2 ^ 64)) (is_scope r.scope) h in
    let grace = and_parts (list_all is_handle_text r.live && nat_lt r.at (2 ^ 64)) (nat_lt r.grace (2 ^ 64)) scope.0 in
    let times = and_parts (list_all is_handle_text r.live) (nat_lt r.at (2 ^ 64)) grace.0 in
    record {
      live = ids_back r.live times.0;
      at = ltb-true r.at (2 ^ 64) times.1;
      grace = ltb-true r.grace (2 ^ 64) grace.1;
      scope = scope_back r.scope scope.1;
    }

pool_there : (p : OnePool) → IsSoundPool p → is_sound_pool p ≡ true
pool_there p h =
    and_from _ _ (and_from _ _ (and_from _ _ h.name (cidr_there p.cidr h.cidr)) (lt-ltb p.size (2 ^ 8) h.size)) h.selector

pool_back : (p : OnePool) → is_sound_pool p ≡ true → IsSoundPool p
pool_back p h =
    let selector = and_parts (is_name_text p.name && is_cidr p.cidr && nat_lt p.size (2 ^ 8)) (is_sound p.selector) h in
    let size = and_parts (is_name_text p.name && is_cidr p.cidr) (nat_lt p.size (2 ^ 8)) selector.0 in
    let names = and_parts (is_name_text p.name) (is_cidr p.cidr) size.0 in
    record {
      name = names.0;
      cidr = cidr_back p.cidr names.1;
      size = ltb-true p.size (2 ^ 8) size.1;
      selector = selector.1;
    }

reservation_there : (r : ReservationValue) → IsReservation r → is_sound_reservation r ≡ true
reservation_there r h =
    and_from _ _ (and_from _ _ h.name (le-leb (length r.cidrs) 64 h.few)) (all_there IsCidr is_cidr cidr_there r.cidrs h.ranges)

reservation_back : (r : ReservationValue) → is_sound_reservation r ≡ true → IsReservation r
reservation_back r h =
    let ranges = and_parts (is_name_text r.name && nat_le (length r.cidrs) 64) (list_all is_cidr r.cidrs) h in
    let few = and_parts (is_name_text r.name) (nat_le (length r.cidrs) 64) ranges.0 in
    record {
      name = few.0;
      few = leb-true (length r.cidrs) 64 few.1;
      ranges = all_back IsCidr is_cidr cidr_back r.cidrs ranges.1;
    }

change_there : (r : Admin) → IsSoundChange r → is_sound_change r ≡ true
change_there (change.Pool pool) h = pool_there pool h
change_there (change.Disable name disabled) h = h
change_there (change.Reserve reservation) h = reservation_there reservation h
change_there (change.Unreserve name) h = h
change_there (change.Config settings) h = lt-ltb settings.max_blocks (2 ^ 32) h

change_back : (r : Admin) → is_sound_change r ≡ true → IsSoundChange r
change_back (change.Pool pool) h = pool_back pool h
change_back (change.Disable name disabled) h = h
change_back (change.Reserve reservation) h = reservation_back reservation h
change_back (change.Unreserve name) h = h
change_back (change.Config settings) h = ltb-true settings.max_blocks (2 ^ 32) h

pub sound_there : (r : Request) → IsSoundRequest r → is_sound_request r ≡ true
unfolding is_sound_request
sound_there (Add request) h = and_from _ _ (add_there request h.0) h.1
sound_there (AddThis request address) h = and_from _ _ (add_there request h.0) (address_there address h.1)
sound_there (Del id) h = h
sound_there (Check id addresses) h =
    and_from _ _ (and_from _ _ h.0 (le-leb (length addresses) 64 h.1)) (all_there IsAddress is_address address_there addresses h.2)
sound_there (Release node cidr) h = and_from _ _ h.0 (cidr_there cidr h.1)
sound_there (Collect request) h = collect_there request h
sound_there (Change request) h = change_there request h
sound_there (Probe request) h = probe_there request h

pub sound_back : (r : Request) → is_sound_request r ≡ true → IsSoundRequest r
unfolding is_sound_request
sound_back (Add request) h =
    let parts = and_parts (is_sound_add request) (request.ipv4 || request.ipv6) h in
    (add_back request parts.0, parts.1)
sound_back (AddThis request address) h =
    let parts = and_parts (is_sound_add request) (is_address address) h in
    (add_back request parts.0, address_back address parts.1)
sound_back (Del id) h = h
sound_back (Check id addresses) h =
    let each = and_parts (is_handle_text id && nat_le (length addresses) 64) (list_all is_address addresses) h in
    let few = and_parts (is_handle_text id) (nat_le (length addresses) 64) each.0 in
    (few.0, leb-true (length addresses) 64 few.1, all_back IsAddress is_address address_back addresses each.1)
sound_back (Release node cidr) h =
    let parts = and_parts (is_name_text node) (is_cidr cidr) h in
    (parts.0, cidr_back cidr parts.1)
sound_back (Collect request) h = collect_back request h
sound_back (Change request) h = change_back request h
sound_back (Probe request) h = probe_back request h

pub sound_told : (r : Request) (told : Bool) → IsTrue told ↔ IsSoundRequest r → told ≡ is_sound_request r
sound_told r true h = sym (sound_there r (h.0 refl))
sound_told r false h = go (is_sound_request r) refl
  where
    go : (b : Bool) → is_sound_request r ≡ b → false ≡ is_sound_request r
    go true e = absurd (let is : IsTrue false = h.1 (sound_back r e) in cc is)
    go false e = sym e
