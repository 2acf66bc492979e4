-- Each sound block is read from its text.
use Rattle.std.proofs.Common.{◌≡◌, ◌≢◌, ◌∙◌, ℕ, suc, ◌+◌, ◌^◌, ◌<◌, ◌≤◌, Bool, true, false, ◌&&◌, List, [], ◌∷◌, ◌++◌, length, get_or, map, Option, Some, None, option_map, Result, Ok, Err, IfOk, Ordering, Less, Equal, Greater, nat_cmp, cond, refl, sym, ap, subst, arith, decimal, eq-eqb, length-append}
use Rattle.std.specs.Prelude.{option_and_then, unwrap_or, All, fold, position, nat_lt, codes, is_some, bytes_eq}
use Rattle.std.specs.List.{list_all, list_any, position_or_len}
use Rattle.std.specs.Ordering.{match_ordering}
use Rattle.std.specs.Str.Parse.{digits_value}
use Rattle.std.specs.Cmp.Lexicographic.{slice_cmp}
use Rattle.std.proofs.lemmas.Bool.{and_parts, and_from, ltb-true, le-leb, lt-ltb}
use Rattle.std.proofs.lemmas.Option.{cond_some}
use Rattle.std.proofs.lemmas.Slice.Eq.{bytes_eq-Decides}
use Rattle.std.proofs.lemmas.List.{length-map, get_or-map, get_or-append-add}
use Rattle.std.proofs.Math.ListN.{get_or-append}
use Rattle.std.proofs.lemmas.List.Elements.{All-push}
use Rattle.std.proofs.lemmas.List.FromFn.{length-range_with_len}
use Rattle.serde_json.specs.Data.{Data, Members, no_members, member, put, string}
use Rattle.serde_json.specs.Read.{read}
use Rattle.serde_json.specs.Written.{compact_text}
use Rattle.serde_json.specs.View.{items_of}
use Rattle.ipam_json.specs.Built.{Field, member_list, item_list, array_of, whole_data}
use Rattle.ipam_json.specs.Canonical.{IsCanonicalWithin, IsCanonical}
use Rattle.ipam_json.specs.Held.{held}
use Rattle.ipam_json.proofs.Held.{held-text}
use Rattle.ipam_json.specs.Path.{as_whole, is_index}
use Rattle.ipam_json.proofs.Constructors.{IsCanonicalWithin-more, IsCanonicalWithin-number, IsCanonicalWithin-string, IsCanonicalWithin-array, IsCanonicalWithin-object, item_list-items_of}
use Rattle.ipam_json.proofs.PathLaws.{index_of-decimal}
use Rattle.ipam_json.proofs.ReadsBack.{read-compact_text}
use Rattle.ipam_addr.specs.Shape.{CidrValue}
use Rattle.ipam_addr.specs.Width.{cidr_size, IsCidr}
use Rattle.ipam_addr.specs.Names.{is_name_text}
use Rattle.ipam_addr.specs.Text.{cidr_text_of}
use Rattle.ipam_addr.proofs.CidrTextLemmas.{cidr_reading-cidr_text_of}
use Rattle.ipam_block.specs.declared.allocation.Allocation.{Allocation}
use Rattle.ipam_block.specs.declared.allocation.Attributes.{Attributes}
use Rattle.ipam_block.specs.Shape.{BlockValue}
use Rattle.ipam_block.specs.Operations.{holder}
use Rattle.ipam_block.specs.Sound.{IsBlock, IsBlockRecord, ordinals_below, held_ordinals}
use Rattle.ipam_block.specs.Test.{ascends_from, is_block, content_of, has_stamp_within}
use Rattle.ipam_block.proofs.Ordinals.{shared-below, shared_count}
use Rattle.ipam_block.proofs.Tested.{true-is_block}
use Rattle.ipam_block.specs.declared.limits.TheConstants.{ADDRESSES_MAX}
use Rattle.ipam_block_text.specs.declared.parts.Parts.{Parts}
use Rattle.ipam_block_text.specs.declared.fault.BodyFault.{BodyFault}
use Rattle.ipam_block_text.specs.declared.fault.BodyFault.TheVariants.{Form, Unsound, Memory}
use Rattle.ipam_block_text.specs.Attributes.{are_same, with_those_of, distinct_attributes}
use Rattle.ipam_block_text.specs.Limits.{is_node_or_none, are_attributes}
use Rattle.ipam_block_text.specs.Form.{AreParts, AreStamps}
use Rattle.ipam_block_text.specs.Parts.{holder_place, block_parts}
use Rattle.ipam_block_text.specs.Body.{host_data, place_data, attributes_data, with_stamp, stamps_data, parts_data, block_body}
use Rattle.ipam_block_text.specs.Reading.{each, if_passes, after_host, host_in, node_in, places_in, place_in, all_attributes_in, attributes_in, small_cidr_in, small_cidr, sequence_in, queue_in, parts_in, is_number_name, is_stamp, are_stamps, stamps_in, form_in, form_text, block_form, cidr_said, held_from, are_ordinals, block_of_parts_in, has_text, checked, reading_from, block_reading}
use Rattle.ipam_block_text.proofs.Limited.{IsLimited, limited, node_there, node_back, attributes_there, attributes_back}
use Rattle.ipam_block_text.proofs.Options.{and_then_some}
use Rattle.ipam_block_text.proofs.Said.{parts_said}
use Rattle.ipam_block_text.proofs.Sound.{block_sound, block_reading-ok}
use Rattle.ipam_block_text.proofs.Canonical.{each-same, attributes_read, place_read, stamps_canonical, attributes_canonical, map_canonical, affinity_canonical, place_canonical}
use Rattle.ipam_block_text.proofs.ReadBack.{all_known, few_in_use, held_back}

passes : {A : Type 0} (test : A → Bool) (x : A) → test x ≡ true → if_passes test x ≡ Some x
passes test x h = ap (λ b. cond b (Some x) None) h

-- ---- bounds in a block

held_below : (b : BlockValue) → IsBlock b → All (λ a. a.ordinal < cidr_size b.cidr) b.allocations
held_below b h i d within =
    let held = held_ordinals b.allocations in
    let count = length-map b.allocations (λ a. a.ordinal) in
    let long = length-append held b.queue in
    let below = shared-below b h i d.ordinal (omega arith) in
    let front = get_or-append held b.queue d.ordinal i (omega arith) in
    let at = get_or-map (λ (a : Allocation). a.ordinal) b.allocations i d d.ordinal within in
    omega arith

queued_below : (b : BlockValue) → IsBlock b → All (λ o. o < cidr_size b.cidr) b.queue
queued_below b h i d within =
    let held = held_ordinals b.allocations in
    let long = length-append held b.queue in
    let below = shared-below b h (length held + i) d (omega arith) in
    let at = get_or-append-add held b.queue i d in
    omega arith

-- ---- the parts

affinity_read : (node : Option (List ℕ)) → is_node_or_none node ≡ true → host_in (host_data node) ≡ Some node
unfolding after_host
affinity_read None h = refl
affinity_read (Some name) h = ap (option_map Some) (passes is_name_text name h)

node_read : (p : Parts) (s : Data) → is_node_or_none p.node ≡ true → node_in (parts_data p s) ≡ Some p.node
unfolding node_in parts_data
node_read p s h = affinity_read p.node h

items_read : {A : Type 0} (f : Data → Option A) (g : A → Data) (xs : List A) → All (λ x. f (g x) ≡ Some x) xs → each f (item_list (items_of (map g xs))) ≡ Some xs
items_read f g xs all = ap (each f) (item_list-items_of (map g xs)) ∙ each-same f g xs all

places_read : (p : Parts) (s : Data) → places_in (parts_data p s) ≡ Some p.places
unfolding places_in parts_data
places_read p s = items_read place_in place_data p.places (λ i d within. place_read (get_or p.places i d))

all_attributes_read : (p : Parts) (s : Data) → All (λ a. are_attributes a ≡ true) p.attributes → all_attributes_in (parts_data p s) ≡ Some p.attributes
unfolding all_attributes_in parts_data
all_attributes_read p s h = items_read attributes_in attributes_data p.attributes (λ i d within. attributes_read (get_or p.attributes i d) (h i d within))

cidr_read : (p : Parts) (s : Data) → IsCidr p.cidr → cidr_size p.cidr ≤ ADDRESSES_MAX → small_cidr_in (parts_data p s) ≡ Some p.cidr
unfolding small_cidr_in parts_data
cidr_read p s range small = ap small_cidr (cidr_reading-cidr_text_of p.cidr range) ∙ ap (λ b. cond b (Some p.cidr) None) (le-leb _ _ small)

sequence_read : (p : Parts) (s : Data) → p.sequence < 2 ^ 64 → sequence_in (parts_data p s) ≡ Some p.sequence
unfolding sequence_in parts_data
sequence_read p s small = passes (λ n. nat_lt n (2 ^ 64)) p.sequence (lt-ltb _ _ small)

queue_read : (p : Parts) (s : Data) → queue_in (parts_data p s) ≡ Some p.queue
unfolding queue_in parts_data
queue_read p s = items_read as_whole whole_data p.queue (λ i d within. refl)

pub parts_read : (p : Parts) (s : Data) → is_node_or_none p.node ≡ true → All (λ a. are_attributes a ≡ true) p.attributes → IsCidr p.cidr → cidr_size p.cidr ≤ ADDRESSES_MAX → p.sequence < 2 ^ 64 → parts_in (parts_data p s) ≡ Some p
unfolding parts_in
parts_read p s node attributes range small sequence =
    rw (node_read p s node, places_read p s, all_attributes_read p s attributes, cidr_read p s range small, sequence_read p s sequence, queue_read p s) refl

-- ---- the stamps

number_named : (n : ℕ) → n < 2 ^ 64 → is_number_name (decimal n) ≡ true
unfolding is_number_name
number_named n small =
    let parts = cond_some (is_index (decimal n)) (digits_value 10 (decimal n)) n (index_of-decimal n small) in
    and_from _ _ parts.0 (lt-ltb _ _ (omega (arith, parts.1)))

stamps_put : (k : List ℕ) (d : Data) (ms : Members) → is_stamp (k, d) ≡ true → list_all is_stamp (member_list ms) ≡ true → list_all is_stamp (member_list (put k d ms)) ≡ true
stamps_put k d no_members h g = and_from _ _ h refl
stamps_put k d (member l e ms) h g =
    let parts = and_parts (is_stamp (l, e)) (list_all is_stamp (member_list ms)) g in
    at (slice_cmp nat_cmp k l) (and_from _ _ h g) (same_named parts.1) (and_from _ _ parts.0 (stamps_put k d ms h parts.1))
  where
    same_named : list_all is_stamp (member_list ms) ≡ true → list_all is_stamp ((l, d) ∷ member_list ms) ≡ true
    same_named rest =
        let named = and_parts (is_number_name l) (is_some (as_whole e)) (and_parts (is_stamp (l, e)) (list_all is_stamp (member_list ms)) g).0 in
        let counted = and_parts (is_number_name k) (is_some (as_whole d)) h in
        and_from _ _ (and_from _ _ named.0 counted.1) rest

    at : (o : Ordering) → list_all is_stamp ((k, d) ∷ (l, e) ∷ member_list ms) ≡ true → list_all is_stamp ((l, d) ∷ member_list ms) ≡ true → list_all is_stamp ((l, e) ∷ member_list (put k d ms)) ≡ true → list_all is_stamp (member_list (match_ordering o (member k d (member l e ms)) (member l d ms) (member l e (put k d ms)))) ≡ true
    at Less first here later = first
    at Equal first here later = here
    at Greater first here later = later

stamps_fold : (xs : List Allocation) (ms : Members) → All (λ a. a.ordinal < 2 ^ 64) xs → list_all is_stamp (member_list ms) ≡ true → list_all is_stamp (member_list (fold with_stamp ms xs)) ≡ true
stamps_fold [] ms small h = h
stamps_fold (x ∷ xs) ms small h =
    stamps_fold xs (with_stamp ms x) (λ i d within. small (suc i) d (omega arith))
    (stamps_put (decimal x.ordinal) (whole_data x.stamp) ms (and_from _ _ (number_named x.ordinal (small 0 x (omega arith))) refl) h)

stamps_read : (p : Parts) (stamps : Data) → are_stamps stamps ≡ true → stamps_in (parts_data p stamps) ≡ Some stamps
unfolding stamps_in parts_data
stamps_read p stamps h = passes are_stamps stamps h

-- ---- the value is canonical

index_below : (all : List Attributes) (b : BlockValue) (o i : ℕ) → holder_place all b o ≡ Some i → i < length all
unfolding holder_place
index_below all b o i e =
    let found = and_then_some (λ a. position (are_same a.attributes) all) (holder b o) i e in
    let p = are_same (found.0).attributes in
    let parts = cond_some (nat_lt (position_or_len p all) (length all)) (position_or_len p all) i found.2 in
    let within = ltb-true _ _ parts.0 in
    omega (arith, parts.1)

few_indexes : (b : BlockValue) → IsBlock b → length (distinct_attributes b.allocations) ≤ ADDRESSES_MAX
few_indexes b h =
    let few = few_in_use [] b.allocations in
    let count = shared_count b h in
    let small = h.small in
    omega arith

places_canonical : (p : Parts) → AreParts p → IsCanonicalWithin 3 (array_of (map place_data p.places))
places_canonical p h =
    IsCanonicalWithin-array 2 3 _ (omega arith)
    (map_canonical 2 place_data p.places (λ i d within. place_canonical (get_or p.places i d) (h.places i d within)))

queue_canonical : (p : Parts) → AreParts p → IsCanonicalWithin 3 (array_of (map whole_data p.queue))
queue_canonical p h =
    IsCanonicalWithin-array 2 3 _ (omega arith)
    (map_canonical 2 whole_data p.queue (λ i d within. IsCanonicalWithin-number 2 (get_or p.queue i d) (h.queue i d within)))

all_canonical : (all : List Attributes) → IsCanonicalWithin 3 (array_of (map attributes_data all))
all_canonical all = IsCanonicalWithin-array 2 3 _ (omega arith) (map_canonical 2 attributes_data all (λ i d within. attributes_canonical (get_or all i d)))

parts_canonical : (p : Parts) (stamps : Data) → AreParts p → AreStamps stamps → IsCanonical (parts_data p stamps)
unfolding parts_data
parts_canonical p stamps h named =
    let fields : List Field =
    (codes "affinity", host_data p.node)
    ∷ (codes "allocations", array_of (map place_data p.places))
    ∷ (codes "attributes", array_of (map attributes_data p.attributes))
    ∷ (codes "cidr", string (cidr_text_of p.cidr))
    ∷ (codes "sequenceNumber", whole_data p.sequence)
    ∷ (codes "sequenceNumberForAllocation", stamps)
    ∷ (codes "unallocated", array_of (map whole_data p.queue))
    ∷ [] in
    let whole = IsCanonicalWithin-object 3 4 fields (omega arith)
    (refl, (refl, (refl, (refl, (refl, (refl, tt)))))) (
      affinity_canonical p.node,
      (
        places_canonical p h,
        (
          all_canonical p.attributes,
          (
            IsCanonicalWithin-string 3 (cidr_text_of p.cidr),
            (
              IsCanonicalWithin-number 3 p.sequence h.sequence,
              (
                IsCanonicalWithin-more 1 3 stamps (omega arith) named.numbers,
                (queue_canonical p h, tt),
              ),
            ),
          ),
        ),
      ),
    ) in
    IsCanonicalWithin-more 4 127 (parts_data p stamps) (omega arith) whole

-- ---- the form

in_use_sound : (found : List Attributes) (xs : List Allocation) → All (λ a. are_attributes a ≡ true) found → All (λ x. are_attributes x.attributes ≡ true) xs → All (λ a. are_attributes a ≡ true) (fold with_those_of found xs)
in_use_sound found [] h all = h
in_use_sound found (x ∷ xs) h all = in_use_sound (with_those_of found x) xs (one_more (list_any (are_same x.attributes) found)) (λ i d within. all (suc i) d (omega arith))
  where
    one_more : (v : Bool) → All (λ a. are_attributes a ≡ true) (cond v found (found ++ x.attributes ∷ []))
    one_more true = h
    one_more false = All-push (λ a. are_attributes a ≡ true) found x.attributes h (all 0 x (omega arith))

-- a text of parts and stamps within the limits says them
pub form_back : (p : Parts) (stamps : Data) → AreParts p → AreStamps stamps → block_form (compact_text (parts_data p stamps)) ≡ Some (p, stamps)
unfolding block_form
form_back p stamps h named =
    let read_back = read-compact_text (parts_data p stamps) (parts_canonical p stamps h named) in
    let attributes : All (λ a. are_attributes a ≡ true) p.attributes = λ i d within. attributes_there (get_or p.attributes i d) (h.attributes i d within) in
    let parts = parts_read p stamps (node_there p.node h.node) attributes h.range.range h.range.small h.sequence in
    held-text form_in form_text (p, stamps) (parts_data p stamps) read_back
    (ap (option_and_then (λ q. option_map (λ s. (q, s)) (stamps_in (parts_data p stamps)))) parts
    ∙ ap (option_map (λ s. (p, s))) (stamps_read p stamps named.names))

small_index : (o : Option ℕ) → ((i : ℕ) → o ≡ Some i → i < 2 ^ 64) → unwrap_or o 0 < 2 ^ 64
small_index None h = omega arith
small_index (Some i) h = h i refl

small_places : (b : BlockValue) → IsBlock b → All (λ place. unwrap_or place 0 < 2 ^ 64) (block_parts b).places
small_places b h i d within =
    let all = distinct_attributes b.allocations in
    let few = few_indexes b h in
    let place = holder_place all b in
    let ordinals = ordinals_below (cidr_size b.cidr) in
    let long = length-map ordinals place in
    let here : get_or (map place ordinals) i d ≡ place (get_or ordinals i 0) = get_or-map place ordinals i 0 d (omega arith) in
    let P : Option ℕ → Type 0 = λ o. unwrap_or o 0 < 2 ^ 64 in
    subst P (sym here) (small_index (place (get_or ordinals i 0)) (λ k e. let below = index_below all b (get_or ordinals i 0) k e in omega arith))

are_parts : (b : BlockValue) → IsLimited b → AreParts (block_parts b)
are_parts b h =
    let block = h.block in
    let small = block.small in
    record {
      node = node_back b.node h.node;
      places = small_places b block;
      attributes = λ i d within. attributes_back (get_or (distinct_attributes b.allocations) i d) (in_use_sound [] b.allocations (λ i d within. absurd (omega arith)) h.attributes i d within);
      range = record { range = block.range; small = block.small };
      sequence = h.sequence;
      queue = λ i d within. let below = queued_below b block i d within in omega arith;
    }

are_stamps_of : (b : BlockValue) → IsLimited b → AreStamps (stamps_data b.allocations)
are_stamps_of b h =
    let block = h.block in
    let small = block.small in
    let sequence = h.sequence in
    record {
      numbers = stamps_canonical b.allocations (λ i d within. let stamped = block.stamped i d within in omega (arith, stamped.1));
      names = stamps_fold b.allocations no_members (λ i d within. let below = held_below b block i d within in omega arith) refl;
    }

form_read : (b : BlockValue) → IsLimited b → block_form (block_body b) ≡ Some (block_parts b, stamps_data b.allocations)
unfolding block_body
form_read b h = form_back (block_parts b) (stamps_data b.allocations) (are_parts b h) (are_stamps_of b h)

fault_same : (e f : BodyFault) → ◌≡◌ {A = Result BlockValue BodyFault} (Err e) (Err f) → e ≡ f
fault_same e f h = cc

-- what has the form is a block's text, or else unsound and of the CIDR that is said
checked_fault : (body : List ℕ) (cidr : CidrValue) (o : Option BlockValue) (e : BodyFault) → checked body cidr o ≡ Err e → e ≡ Unsound cidr
checked_fault body cidr None e h = sym (fault_same (Unsound cidr) e h)
checked_fault body cidr (Some b) e h = go (bytes_eq (block_body b) body) h
  where
    go : (t : Bool) → cond t (Ok b) (Err (Unsound cidr)) ≡ Err e → e ≡ Unsound cidr
    go true k = absurd cc
    go false k = sym (fault_same (Unsound cidr) e k)

pub unsound_said : (body : List ℕ) (cidr : CidrValue) → block_reading body ≡ Err (Unsound cidr) → cidr_said body ≡ Some cidr
unfolding block_reading
unsound_said body cidr h = go (block_form body) h
  where
    same : (r s : CidrValue) → Unsound r ≡ Unsound s → r ≡ s
    same r s e = cc

    go : (o : Option (Parts × Data)) → reading_from body o ≡ Err (Unsound cidr) → option_map (λ f. f.0.cidr) o ≡ Some cidr
    go None k = absurd cc
    go (Some f) k = ap Some (sym (same cidr f.0.cidr (checked_fault body f.0.cidr (block_of_parts_in f.0 f.1) (Unsound cidr) k)))

-- ---- the block

are_ordinals-below : (n : ℕ) (queue : List ℕ) → n ≤ ADDRESSES_MAX → All (λ o. o < n) queue → are_ordinals queue ≡ true
are_ordinals-below n [] small h = refl
are_ordinals-below n (o ∷ queue) small h =
    let below = h 0 o (omega arith) in
    and_from _ _ (lt-ltb _ _ (omega arith)) (are_ordinals-below n queue small (λ i d within. h (suc i) d (omega arith)))

block_back : (b : BlockValue) → IsLimited b → block_of_parts_in (block_parts b) (stamps_data b.allocations) ≡ Some b
unfolding block_of_parts_in
block_back b h =
    let block = h.block in
    let small = block.small in
    let n = cidr_size b.cidr in
    let all = distinct_attributes b.allocations in
    let passed = true-is_block b block in
    let up = (and_parts (ascends_from 0 b.allocations) (list_all (has_stamp_within b.sequence) b.allocations) (and_parts (ascends_from 0 b.allocations && list_all (has_stamp_within b.sequence) b.allocations) _ passed).0).0 in
    let fits : All (λ a. a.ordinal < 2 ^ 64) b.allocations = λ i d within. let below = held_below b block i d within in omega arith in
    let held = held_back all (stamps_data b.allocations) b 0 n b.allocations (λ o from. refl) up
    (λ i d within. let below = held_below b block i d within in omega arith)
    (all_known b.allocations up fits) in
    let count = length-map (ordinals_below n) (holder_place all b) in
    let long = length-range_with_len 0 n in
    let same = eq-eqb (length (block_parts b).places) n (omega arith) in
    let tests = and_from _ _ same (are_ordinals-below n b.queue small (queued_below b block)) in
    let made : List Allocation → BlockValue = λ found. content_of b.cidr b.node found b.queue b.sequence in
    let whole = λ (o : Option (List Allocation)). option_and_then (if_passes is_block) (option_map made o) in
    ap (λ t. cond t (whole (held_from all (stamps_data b.allocations) 0 (block_parts b).places)) None) tests
    ∙ ap whole held ∙ passes is_block b passed

limited_block_read : (b : BlockValue) → IsLimited b → block_reading (block_body b) ≡ Ok b
unfolding block_reading
limited_block_read b h =
    let body = block_body b in
    ap (reading_from body) (form_read b h) ∙ ap (checked body b.cidr) (block_back b h)
    ∙ ap (λ t. cond t (Ok b) (Err (Unsound b.cidr))) ((bytes_eq-Decides body body).1 refl)

pub sound_block_read : (b : BlockValue) → IsBlockRecord b → block_reading (block_body b) ≡ Ok b
sound_block_read b h = limited_block_read b (limited b h)

-- no two sound blocks have one text
pub one_text : (b c : BlockValue) → IsBlockRecord b → IsBlockRecord c → block_body b ≡ block_body c → b ≡ c
one_text b c h k same = found_same b c (sym (sound_block_read b h) ∙ ap block_reading same ∙ sound_block_read c k)
  where
    found_same : (x y : BlockValue) → ◌≡◌ {A = Result BlockValue BodyFault} (Ok x) (Ok y) → x ≡ y
    found_same x y e = cc

-- ---- what the code finds

-- what a value says, as the code reads it
pub record SaysForm (body : List ℕ) (d : Data) (p : Parts) (stamps : Data) : Type 0 where
  pub value : read body ≡ Some d
  pub parts : parts_in d ≡ Some p
  pub stamps_said : stamps_in d ≡ Some stamps

is_form : (body : List ℕ) (d : Data) (p : Parts) (stamps : Data) → SaysForm body d p stamps → block_form body ≡ if_passes (λ f. bytes_eq (compact_text (parts_data f.0 f.1)) body) (p, stamps)
unfolding block_form held
is_form body d p stamps says = rw (says.value, says.parts, says.stamps_said) refl

pub no_value : (body : List ℕ) → read body ≡ None → block_reading body ≡ Err Form
unfolding block_reading block_form held
no_value body none = rw none refl

pub no_parts : (body : List ℕ) (d : Data) → read body ≡ Some d → parts_in d ≡ None → block_reading body ≡ Err Form
unfolding block_reading block_form held
no_parts body d value none = rw (value, none) refl

pub no_stamps : (body : List ℕ) (d : Data) (p : Parts) → read body ≡ Some d → parts_in d ≡ Some p → stamps_in d ≡ None → block_reading body ≡ Err Form
unfolding block_reading block_form held
no_stamps body d p value parts none = rw (value, parts, none) refl

texted : (body : List ℕ) (o : Option BlockValue) (b : BlockValue) → option_and_then (has_text body) o ≡ Some b → (o ≡ Some b) × (block_body b ≡ body)
texted body None b e = absurd cc
texted body (Some c) b e =
    let parts = cond_some (bytes_eq (block_body c) body) c b e in
    (ap Some parts.1, ap block_body (sym parts.1) ∙ (bytes_eq-Decides (block_body c) body).0 parts.0)

pub block_found : (body : List ℕ) (d : Data) (p : Parts) (stamps : Data) (b : BlockValue) → SaysForm body d p stamps → option_and_then (has_text body) (block_of_parts_in p stamps) ≡ Some b → block_reading body ≡ Ok b
block_found body d p stamps b says e =
    let found = texted body (block_of_parts_in p stamps) b e in
    ap block_reading (sym found.1) ∙ limited_block_read b (block_sound d p stamps b (parts_said d p says.parts) found.0)

untexted : (body : List ℕ) (cidr : CidrValue) (o : Option BlockValue) → option_and_then (has_text body) o ≡ None → checked body cidr o ≡ Err (Unsound cidr)
untexted body cidr None e = refl
untexted body cidr (Some b) e = go (bytes_eq (block_body b) body) e
  where
    go : (t : Bool) → cond t (Some b) None ≡ None → cond t (Ok b) (Err (Unsound cidr)) ≡ Err (Unsound cidr)
    go true k = absurd cc
    go false k = refl

pub unsound_found : (body : List ℕ) (d : Data) (p : Parts) (stamps : Data) → SaysForm body d p stamps → option_and_then (has_text body) (block_of_parts_in p stamps) ≡ None → bytes_eq (compact_text (parts_data p stamps)) body ≡ true → block_reading body ≡ Err (Unsound p.cidr)
unfolding block_reading
unsound_found body d p stamps says none same =
    let is_text : Parts × Data → Bool = λ f. bytes_eq (compact_text (parts_data f.0 f.1)) body in
    ap (reading_from body) (is_form body d p stamps says ∙ passes is_text (p, stamps) same)
    ∙ untexted body p.cidr (block_of_parts_in p stamps) none

pub form_found : (body : List ℕ) (d : Data) (p : Parts) (stamps : Data) → SaysForm body d p stamps → bytes_eq (compact_text (parts_data p stamps)) body ≡ false → block_reading body ≡ Err Form
unfolding block_reading
form_found body d p stamps says other =
    ap (reading_from body) (is_form body d p stamps says ∙ ap (λ b. cond b (Some (p, stamps)) None) other)

-- ---- what the faults mean

-- a text that is refused for its form says no CIDR
pub formless_said : (body : List ℕ) → block_reading body ≡ Err Form → cidr_said body ≡ None
unfolding block_reading
formless_said body e = go (block_form body) e
  where
    go : (o : Option (Parts × Data)) → reading_from body o ≡ Err Form → option_map (λ f. f.0.cidr) o ≡ None
    go None k = refl
    go (Some f) k = let is = checked_fault body f.0.cidr (block_of_parts_in f.0 f.1) Form k in absurd cc

-- parts and stamps within the limits say the CIDR
pub parts_say : (p : Parts) (stamps : Data) → AreParts p → AreStamps stamps → cidr_said (compact_text (parts_data p stamps)) ≡ Some p.cidr
parts_say p stamps parts named = ap (option_map (λ (f : Parts × Data). f.0.cidr)) (form_back p stamps parts named)

-- what is refused is no sound block's text
pub unread_text : (body : List ℕ) (e : BodyFault) → block_reading body ≡ Err e → (b : BlockValue) → IsBlockRecord b → body ≢ block_body b
unread_text body e refused b sound same =
    let k : ◌≡◌ {A = Result BlockValue BodyFault} (Err e) (Ok b) = sym refused ∙ ap block_reading same ∙ sound_block_read b sound in
    cc

no_memory_read : (body : List ℕ) → block_reading body ≢ Err Memory
unfolding block_reading
no_memory_read body e = go (block_form body) e
  where
    go : (o : Option (Parts × Data)) → reading_from body o ≢ Err Memory
    go None k = absurd cc
    go (Some f) k = let is = checked_fault body f.0.cidr (block_of_parts_in f.0 f.1) Memory k in absurd cc

formless_read : (body : List ℕ) → cidr_said body ≡ None → block_reading body ≡ Err Form
unfolding block_reading
formless_read body e = go (block_form body) e
  where
    go : (o : Option (Parts × Data)) → option_map (λ f. f.0.cidr) o ≡ None → reading_from body o ≡ Err Form
    go None k = refl
    go (Some f) k = absurd cc

unsound_read : (body : List ℕ) (cidr : CidrValue) → cidr_said body ≡ Some cidr → ((b : BlockValue) → IsBlockRecord b → body ≢ block_body b) → (r : Result BlockValue BodyFault) → block_reading body ≡ r → r ≡ Err (Unsound cidr)
unsound_read body cidr said none (Ok b) e = let found = block_reading-ok body b e in absurd (none b found.1 found.0)
unsound_read body cidr said none (Err Form) e = let unsaid = formless_said body e in absurd cc
unsound_read body cidr said none (Err (Unsound other)) e =
    let so = unsound_said body other e in
    let same : other ≡ cidr = cc in
    ap (λ c. Err (Unsound c)) same
unsound_read body cidr said none (Err Memory) e = absurd (no_memory_read body e)

-- what `block_of` tells of a text is what is read of it
pub block_reading-told : (body : List ℕ) (r : Result BlockValue BodyFault) → IfOk r (λ b. IsBlockRecord b × (body ≡ block_body b)) → (r ≡ Err Form → cidr_said body ≡ None) → ((cidr : CidrValue) → r ≡ Err (Unsound cidr) → (cidr_said body ≡ Some cidr) × ((b : BlockValue) → IsBlockRecord b → body ≢ block_body b)) → r ≢ Err Memory → block_reading body ≡ r
block_reading-told body (Ok b) told form unsound no_memory = ap block_reading told.1 ∙ sound_block_read b told.0
block_reading-told body (Err Form) told form unsound no_memory = formless_read body (form refl)
block_reading-told body (Err (Unsound cidr)) told form unsound no_memory =
    let is = unsound cidr refl in unsound_read body cidr is.0 is.1 (block_reading body) refl
block_reading-told body (Err Memory) told form unsound no_memory = absurd (no_memory refl)
