-- What good calls ask is sound: its parts.
use Rattle.std.proofs.Common.{◌≡◌, ℕ, ◌+◌, ◌≤◌, List, [], ◌∷◌, ◌++◌, length, length-append, ◌&&◌, nat_le, nat_lt, Bool, true, false, Option, Some, None, option_and_then, codes, append_assoc, Result, Ok, Err, refl, ap, ◌∙◌, arith}
use Rattle.std.specs.Prelude.{unwrap_or}
use Rattle.std.proofs.lemmas.Bool.{and_parts, and_from, leb-true, ltb-true, le-leb}
use Rattle.std.proofs.lemmas.List.Elements.{All-nil, All-push}
use Rattle.std.proofs.lemmas.List.Folds.{list_all-append}
use Rattle.std.specs.Char.{is_ascii_alphanumeric}
use Rattle.std.specs.List.{All, list_all}
use Rattle.serde_json.specs.Data.{Data, Items, no_items, item, Members, no_members, member}
use Rattle.serde_json.specs.Find.{get, as_str, as_array, as_object}
use Rattle.ipam_json.specs.Built.{item_list, member_list}
use Rattle.ipam_addr.specs.Names.{is_name_byte, is_name_within, is_name_text, is_handle_text}
use Rattle.ipam_addr.specs.Shape.{AddrValue}
use Rattle.cni_types.specs.declared.refusal.Member.TheVariants.{Attachment, AttachmentContainer}
use Rattle.ipam_pool.specs.declared.table.TheConstants.{MOST_POOLS}
use Rattle.cni_types.specs.Reading.{Pair, ◌>>◌, demand, text_or_empty, text_or_empty_at, is_object, is_name_at, are_few, are_few_members}
use Rattle.cni_types.specs.Configuration.{is_key_byte, is_label_key, is_label_text, is_label_value, are_all_labels, are_label_members, are_labels, is_pool_text, are_all_pools, are_pool_items, are_pools, address_with_prefix_in, are_all_addresses, are_address_items, are_addresses, attachment_tested, attachments_tested_from, attachment_items_tested, attachments_tested}
use Rattle.cni_types.specs.Asked.{container_handle, items_found, listed_texts_after, labels_after, labels_found, with_address, listed_addresses_after, live_after}
use Rattle.cni_types.specs.Sound.{IsHandleId, IsLabel, IsPoolName, ArePoolNames}
use Rattle.ipam_block.specs.declared.limits.TheConstants.{CHECKED_MAX}

-- ---- tests one after the other

pub passed : {B E : Type 0} (b : Bool) (e : E) (next : Result B E) (v : B) → (demand b e >> next) ≡ Ok v → (b ≡ true) × (next ≡ Ok v)
passed true e next v h = (refl, h)
passed false e next v h = absurd cc

pub passed_last : {E : Type 0} (b : Bool) (e : E) (u : Unit {0}) → demand b e ≡ Ok u → b ≡ true
passed_last true e u h = refl
passed_last false e u h = absurd cc

pub passed_both : {B E : Type 0} (m : Result (Unit {0}) E) (next : Result B E) (v : B) → (m >> next) ≡ Ok v → (m ≡ Ok tt) × (next ≡ Ok v)
passed_both (Ok u) next v h = (refl, h)
passed_both (Err e) next v h = absurd cc

-- ---- handles

first_byte : (c : ℕ) → is_ascii_alphanumeric c ≡ true → is_name_byte c ≡ true
first_byte c h = rw h refl

name_parts : (most : ℕ) (text : List ℕ) → is_name_within most text ≡ true → (list_all is_name_byte text ≡ true) × (length text ≤ most)
name_parts most [] h = absurd cc
name_parts most (c ∷ text) h =
    let (front, rest) = and_parts (is_ascii_alphanumeric c && nat_le (length (c ∷ text)) most) (list_all is_name_byte text) h in
    let (letter, short) = and_parts (is_ascii_alphanumeric c) (nat_le (length (c ∷ text)) most) front in
    (rw (first_byte c letter) rest, leb-true _ _ short)

longer : (few most : ℕ) (text more : List ℕ) → is_name_within few text ≡ true → list_all is_name_byte more ≡ true → length text + length more ≤ most → is_name_within most (text ++ more) ≡ true
longer few most [] more h k short = absurd cc
longer few most (c ∷ text) more h k short =
    let (front, rest) = and_parts (is_ascii_alphanumeric c && nat_le (length (c ∷ text)) few) (list_all is_name_byte text) h in
    let letter = (and_parts (is_ascii_alphanumeric c) (nat_le (length (c ∷ text)) few) front).0 in
    let small : length (c ∷ (text ++ more)) ≤ most = omega (arith, length-append text more) in
    and_from _ _ (and_from _ _ letter (le-leb _ _ small)) (list_all-append is_name_byte text more ∙ and_from _ _ rest k)

pub name_small : (text : List ℕ) → is_name_text text ≡ true → length text ≤ 253
name_small text h = (name_parts 253 text h).1

pub handle_of-sound : (network container : List ℕ) → is_name_text network ≡ true → is_name_text container ≡ true → IsHandleId (container_handle network container)
handle_of-sound network container h k =
    let n = name_parts 253 network h in
    let c = name_parts 253 container k in
    let dotted : is_name_within 507 (network ++ (46 ∷ container)) ≡ true = longer 253 507 network (46 ∷ container) h c.0 (omega arith) in
    let grouped : container_handle network container ≡ network ++ (46 ∷ container) = append_assoc network (46 ∷ []) container in
    ap is_handle_text grouped ∙ dotted

-- ---- labels

small_value : (o : Option (List ℕ)) → is_label_text o ≡ true → length (unwrap_or o []) ≤ 253
small_value None h = absurd cc
small_value (Some text) h = leb-true _ _ h

label-sound : (key : List ℕ) (d : Data) → is_label_key key ≡ true → is_label_value d ≡ true → IsLabel (key, text_or_empty d)
label-sound key d h k =
    let (front, bytes) = and_parts (nat_lt 0 (length key) && nat_le (length key) 317) (list_all is_key_byte key) h in
    let (some, small) = and_parts (nat_lt 0 (length key)) (nat_le (length key) 317) front in
    record {
      key_some = ltb-true _ _ some;
      key_small = leb-true _ _ small;
      key_bytes = bytes;
      value_small = small_value (as_str d) k;
    }

labels_after-sound : (labels : List Pair) (ms : Members) → All IsLabel labels → are_all_labels ms ≡ true → All IsLabel (labels_after labels ms)
labels_after-sound labels no_members h k = h
labels_after-sound labels (member key d ms) h k =
    let (here, later) = and_parts (is_label_key key && is_label_value d) (are_all_labels ms) k in
    let (good_key, good_value) = and_parts (is_label_key key) (is_label_value d) here in
    labels_after-sound (labels ++ (key, text_or_empty d) ∷ []) ms (All-push IsLabel labels (key, text_or_empty d) h (label-sound key d good_key good_value)) later

length-labels_after : (labels : List Pair) (ms : Members) → length (labels_after labels ms) ≡ length labels + length (member_list ms)
length-labels_after labels no_members = omega arith
length-labels_after labels (member key d ms) =
    let more = length-labels_after (labels ++ (key, text_or_empty d) ∷ []) ms in
    let push = length-append labels ((key, text_or_empty d) ∷ []) in
    omega (arith, more, push)

-- few labels, each sound, where the test says so
pub record AreFewLabels (labels : List Pair) : Type 0 where
  pub few : length labels ≤ 64
  pub each : All IsLabel labels

none : AreFewLabels []
none = record { few = omega arith; each = All-nil IsLabel }

members-sound : (o : Option Members) → are_label_members o ≡ true → AreFewLabels (labels_found o)
members-sound None h = absurd cc
members-sound (Some ms) h =
    let (few, each) = and_parts (are_few_members ms) (are_all_labels ms) h in
    let short : length (member_list ms) ≤ 64 = leb-true _ _ few in
    let len = length-labels_after [] ms in
    record { few = omega (arith, len, short); each = labels_after-sound [] ms (All-nil IsLabel) each }

pub labels-sound : (o : Option Data) → are_labels o ≡ true → AreFewLabels (labels_found (option_and_then as_object o))
labels-sound None h = none
labels-sound (Some d) h = members-sound (as_object d) h

-- ---- pools

texts_after-sound : (texts : List (List ℕ)) (ds : Items) → All IsPoolName texts → are_all_pools ds ≡ true → All IsPoolName (listed_texts_after texts ds)
texts_after-sound texts no_items h k = h
texts_after-sound texts (item d ds) h k =
    let (here, later) = and_parts (is_pool_text (text_or_empty d)) (are_all_pools ds) k in
    texts_after-sound (texts ++ text_or_empty d ∷ []) ds (All-push IsPoolName texts (text_or_empty d) h here) later

length-texts_after : (texts : List (List ℕ)) (ds : Items) → length (listed_texts_after texts ds) ≡ length texts + length (item_list ds)
length-texts_after texts no_items = omega arith
length-texts_after texts (item d ds) =
    let more = length-texts_after (texts ++ text_or_empty d ∷ []) ds in
    let push = length-append texts (text_or_empty d ∷ []) in
    omega (arith, more, push)

pool_items-sound : (o : Option Items) → are_pool_items o ≡ true → ArePoolNames (listed_texts_after [] (unwrap_or o no_items))
pool_items-sound None h = absurd cc
pool_items-sound (Some ds) h =
    let (few, each) = and_parts (are_few MOST_POOLS ds) (are_all_pools ds) h in
    let short : length (item_list ds) ≤ 64 = leb-true _ _ few in
    let len = length-texts_after [] ds in
    record { few = omega (arith, len, short); each = texts_after-sound [] ds (All-nil IsPoolName) each }

pub pools-sound : (o : Option Data) → are_pools o ≡ true → ArePoolNames (listed_texts_after [] (items_found o))
pools-sound None h = record { few = omega arith; each = All-nil IsPoolName }
pools-sound (Some d) h = pool_items-sound (as_array d) h

-- ---- addresses

length-with_address : (addresses : List AddrValue) (o : Option AddrValue) → length (with_address addresses o) ≤ length addresses + 1
length-with_address addresses None = omega arith
length-with_address addresses (Some a) = omega (arith, length-append addresses (a ∷ []))

length-addresses_after : (addresses : List AddrValue) (ds : Items) → length (listed_addresses_after addresses ds) ≤ length addresses + length (item_list ds)
length-addresses_after addresses no_items = omega arith
length-addresses_after addresses (item d ds) =
    let more = length-addresses_after (with_address addresses (address_with_prefix_in d)) ds in
    let one = length-with_address addresses (address_with_prefix_in d) in
    omega (arith, more, one)

address_items-few : (o : Option Items) → are_address_items o ≡ true → length (listed_addresses_after [] (unwrap_or o no_items)) ≤ 64
address_items-few None h = absurd cc
address_items-few (Some ds) h =
    let short : length (item_list ds) ≤ 64 = leb-true _ _ (and_parts (are_few CHECKED_MAX ds) (are_all_addresses ds) h).0 in
    let len = length-addresses_after [] ds in
    omega (arith, len, short)

pub addresses-few : (o : Option Data) → are_addresses o ≡ true → length (listed_addresses_after [] (items_found o)) ≤ 64
addresses-few None h = omega arith
addresses-few (Some d) h = address_items-few (as_array d) h

-- ---- attachments

attachment-named : (index : ℕ) (d : Data) → attachment_tested index d ≡ Ok tt → is_name_at (codes "containerID") d ≡ true
unfolding attachment_tested
attachment-named index d h =
    let first = passed (is_object d) (Attachment index) _ tt h in
    (passed (is_name_at (codes "containerID") d) (AttachmentContainer index) _ tt first.1).0

live-sound_from : (network : List ℕ) (live : List (List ℕ)) (index : ℕ) (ds : Items) → is_name_text network ≡ true → All IsHandleId live → attachments_tested_from index ds ≡ Ok tt → All IsHandleId (live_after network live ds)
live-sound_from network live index no_items n h k = h
live-sound_from network live index (item d ds) n h k =
    let both = passed_both (attachment_tested index d) (attachments_tested_from (index + 1) ds) tt k in
    let handle = container_handle network (text_or_empty_at (codes "containerID") d) in
    let good : IsHandleId handle = handle_of-sound network (text_or_empty_at (codes "containerID") d) n (attachment-named index d both.0) in
    live-sound_from network (live ++ handle ∷ []) (index + 1) ds n (All-push IsHandleId live handle h good) both.1

live_items-sound : (network : List ℕ) (o : Option Items) → is_name_text network ≡ true → attachment_items_tested o ≡ Ok tt → All IsHandleId (live_after network [] (unwrap_or o no_items))
live_items-sound network None n h = absurd cc
live_items-sound network (Some ds) n h = live-sound_from network [] 0 ds n (All-nil IsHandleId) h

pub live-sound : (d : Data) → is_name_at (codes "name") d ≡ true → attachments_tested d ≡ Ok tt → All IsHandleId (live_after (text_or_empty_at (codes "name") d) [] (items_found (get (codes "cni.dev/valid-attachments") d)))
live-sound d n h = live_items-sound (text_or_empty_at (codes "name") d) (option_and_then as_array (get (codes "cni.dev/valid-attachments") d)) n h
