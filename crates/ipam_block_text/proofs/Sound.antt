-- A block that is read is sound, and the text is its text.
use Rattle.std.proofs.Common.{◌≡◌, ◌∙◌, ℕ, suc, zero, ◌+◌, ◌^◌, ◌<◌, Bool, true, false, ◌&&◌, List, [], ◌∷◌, Option, Some, None, option_map, Result, Ok, Err, cond, refl, sym, ap, subst, arith}
use Rattle.std.specs.Prelude.{option_and_then, All, nat_lt, bytes_eq, slice_get, codes}
use Rattle.std.proofs.lemmas.Bool.{ltb-true}
use Rattle.std.proofs.lemmas.List.Elements.{All-cons}
use Rattle.std.proofs.lemmas.Slice.Eq.{bytes_eq-Decides}
use Rattle.serde_json.specs.Data.{Data, null, boolean, number, string, array, object}
use Rattle.serde_json.specs.Find.{get}
use Rattle.ipam_addr.specs.Shape.{CidrValue}
use Rattle.ipam_addr.specs.Width.{IsCidr}
use Rattle.ipam_addr.specs.Names.{is_name_text, is_handle_text}
use Rattle.ipam_json.proofs.Held.{held-was}
use Rattle.ipam_json.specs.Path.{as_whole}
use Rattle.ipam_block.specs.declared.allocation.Allocation.{Allocation}
use Rattle.ipam_block.specs.declared.allocation.Attributes.{Attributes}
use Rattle.ipam_block.specs.Shape.{BlockValue}
use Rattle.ipam_block.specs.Sound.{IsBlockRecord}
use Rattle.ipam_block.specs.Test.{is_block, content_of}
use Rattle.ipam_block.proofs.Tested.{is_block-true}
use Rattle.ipam_block_text.specs.declared.fault.BodyFault.{BodyFault}
use Rattle.ipam_block_text.specs.declared.fault.BodyFault.TheVariants.{Unsound}
use Rattle.ipam_block_text.specs.declared.parts.Parts.{Parts}
use Rattle.ipam_block_text.specs.Limits.{is_node_or_none, are_pairs, are_attributes}
use Rattle.ipam_block_text.specs.Body.{block_body}
use Rattle.ipam_block_text.specs.Reading.{each, if_passes, pair_in, node_in, host_in, node_named, after_host, all_attributes_in, attributes_in, handle_id_in, secondary_in, sequence_in, stamp_of, allocation_at, held_from, block_of_parts_in, checked, reading_from, form_in, form_text, block_form, cidr_said, block_reading, parts_in, stamps_in}
use Rattle.ipam_json.specs.Members.{text_at, list_at, fields_at}
use Rattle.ipam_block_text.proofs.Limited.{IsLimited, kept}
use Rattle.ipam_block_text.proofs.Options.{some_same, and_then_some, map_some, passed_some}
use Rattle.ipam_block_text.proofs.Said.{Says, parts_said, cidr_sound}

-- ---- the texts

named_sound : (text : List ℕ) (node : Option (List ℕ)) → node_named text ≡ Some node → is_node_or_none node ≡ true
named_sound text node e =
    let named = map_some Some (option_and_then (if_passes is_name_text) (after_host text)) node e in
    let tested = passed_some is_name_text (after_host text) named.0 named.1 in
    sym (ap is_node_or_none named.2) ∙ tested.1

affinity_sound : (d : Data) (node : Option (List ℕ)) → host_in d ≡ Some node → is_node_or_none node ≡ true
affinity_sound null found e = let P : Option (List ℕ) → Type 0 = λ o. is_node_or_none o ≡ true in subst P (some_node found e) refl
  where
    some_node : (n : Option (List ℕ)) → Some None ≡ Some n → None ≡ n
    some_node n e = cc
affinity_sound (boolean b) found e = absurd cc
affinity_sound (number n) found e = absurd cc
affinity_sound (string s) found e = named_sound s found e
affinity_sound (array ds) found e = absurd cc
affinity_sound (object ms) found e = absurd cc

node_sound : (d : Data) (node : Option (List ℕ)) → node_in d ≡ Some node → is_node_or_none node ≡ true
unfolding node_in
node_sound d node e =
    let found = and_then_some host_in (get (codes "affinity") d) node e in
    affinity_sound found.0 node found.2

handle_sound : (d : Data) (handle : List ℕ) → handle_id_in d ≡ Some handle → is_handle_text handle ≡ true
unfolding handle_id_in
handle_sound d handle e = (passed_some is_handle_text (text_at (codes "handle_id") d) handle e).1

secondary_sound : (d : Data) (pairs : List (List ℕ × List ℕ)) → secondary_in d ≡ Some pairs → are_pairs pairs ≡ true
unfolding secondary_in
secondary_sound d pairs e = (passed_some are_pairs (option_and_then (each pair_in) (fields_at (codes "secondary") d)) pairs e).1

both : (a b : Bool) → a ≡ true → b ≡ true → (a && b) ≡ true
both a b e f = rw (e, f) refl

attributes_sound : (d : Data) (a : Attributes) → attributes_in d ≡ Some a → are_attributes a ≡ true
unfolding attributes_in
attributes_sound d a e =
    let named = and_then_some (λ handle. option_map (λ pairs. made handle pairs) (secondary_in d)) (handle_id_in d) a e in
    let paired = map_some (λ pairs. made named.0 pairs) (secondary_in d) a named.2 in
    let sound = both _ _ (handle_sound d named.0 named.1) (secondary_sound d paired.0 paired.1) in
    subst (λ x. are_attributes x ≡ true) paired.2 sound
  where
    made : List ℕ → List (List ℕ × List ℕ) → Attributes
    made handle pairs = record { handle = handle; secondary = pairs }

-- what passes of each item
all_none : {B : Type 0} (P : B → Type 0) → All P []
all_none P i d within = absurd (omega arith)

each_all : {A B : Type 0} (f : A → Option B) (P : B → Type 0) → ((x : A) (y : B) → f x ≡ Some y → P y) → (xs : List A) (ys : List B) → each f xs ≡ Some ys → All P ys
each_all f P h [] ys e = subst (All P) (some_same [] ys e) (all_none P)
each_all f P h (x ∷ xs) ys e =
    let first = and_then_some (λ y. option_map (λ more. y ∷ more) (each f xs)) (f x) ys e in
    let rest = map_some (λ more. first.0 ∷ more) (each f xs) ys first.2 in
    subst (All P) rest.2 (All-cons P first.0 rest.0 (h x first.0 first.1) (each_all f P h xs rest.0 rest.1))

all_sound : (d : Data) (all : List Attributes) → all_attributes_in d ≡ Some all → All (λ a. are_attributes a ≡ true) all
unfolding all_attributes_in
all_sound d all e =
    let found = and_then_some (each attributes_in) (list_at (codes "attributes") d) all e in
    each_all attributes_in (λ a. are_attributes a ≡ true) attributes_sound found.0 all found.2

sequence_sound : (d : Data) (n : ℕ) → sequence_in d ≡ Some n → n < 2 ^ 64
unfolding sequence_in
sequence_sound d n e = ltb-true _ _ (passed_some (λ m. nat_lt m (2 ^ 64)) (option_and_then as_whole (get (codes "sequenceNumber") d)) n e).1

-- ---- what is held

got_sound : (P : Attributes → Type 0) (all : List Attributes) (i : ℕ) (a : Attributes) → All P all → slice_get all i ≡ Some a → P a
got_sound P [] i a h e = absurd cc
got_sound P (x ∷ all) zero a h e = subst P (same x a e) (h 0 x (omega arith))
  where
    same : (x a : Attributes) → Some x ≡ Some a → x ≡ a
    same x a e = cc
got_sound P (x ∷ all) (suc i) a h e = got_sound P all i a (λ k d within. h (suc k) d (omega arith)) e

allocation_sound : (P : Attributes → Type 0) (all : List Attributes) (stamps : Data) (o i : ℕ) (a : Allocation) → All P all → allocation_at all stamps o i ≡ Some a → P a.attributes
allocation_sound P all stamps o i a h e =
    let own = and_then_some (λ x. option_map (λ s. made x s) (stamp_of stamps o)) (slice_get all i) a e in
    let stamped = map_some (λ s. made own.0 s) (stamp_of stamps o) a own.2 in
    subst (λ x. P x.attributes) stamped.2 (got_sound P all i own.0 h own.1)
  where
    made : Attributes → ℕ → Allocation
    made x s = record { ordinal = o; attributes = x; stamp = s }

held_sound : (P : Attributes → Type 0) (all : List Attributes) (stamps : Data) (o : ℕ) (places : List (Option ℕ)) (held : List Allocation) → All P all → held_from all stamps o places ≡ Some held → All (λ a. P a.attributes) held
held_sound P all stamps o [] held h e = subst (λ (l : List Allocation). All (λ a. P a.attributes) l) (some_same [] held e) (all_none (λ a. P a.attributes))
held_sound P all stamps o (None ∷ places) held h e = held_sound P all stamps (o + 1) places held h e
held_sound P all stamps o (Some index ∷ places) held h e =
    let first = and_then_some (λ a. option_map (λ more. a ∷ more) (held_from all stamps (o + 1) places)) (allocation_at all stamps o index) held e in
    let rest = map_some (λ more. first.0 ∷ more) (held_from all stamps (o + 1) places) held first.2 in
    subst (λ (l : List Allocation). All (λ a. P a.attributes) l) rest.2
    (All-cons (λ a. P a.attributes) first.0 rest.0
    (allocation_sound P all stamps o index first.0 h first.1)
    (held_sound P all stamps (o + 1) places rest.0 h rest.1))

-- ---- the block

if_some : {A : Type 0} (b : Bool) (o : Option A) (y : A) → cond b o None ≡ Some y → o ≡ Some y
if_some true o y e = e
if_some false o y e = absurd cc

pub block_sound : (d : Data) (p : Parts) (stamps : Data) (b : BlockValue) → Says d p → block_of_parts_in p stamps ≡ Some b → IsLimited b
unfolding block_of_parts_in
block_sound d p stamps b says e =
    let inner = if_some _ _ b e in
    let tested = passed_some is_block (option_map (λ held. content_of p.cidr p.node held p.queue p.sequence) (held_from p.attributes stamps 0 p.places)) b inner in
    let made = map_some (λ held. content_of p.cidr p.node held p.queue p.sequence) (held_from p.attributes stamps 0 p.places) b tested.0 in
    let range = cidr_sound d p.cidr says.cidr in
    let content = content_of p.cidr p.node made.0 p.queue p.sequence in
    let passed : is_block content ≡ true = ap is_block made.2 ∙ tested.1 in
    subst IsLimited made.2 (record {
      block = is_block-true content range.0 range.1 passed;
      node = node_sound d p.node says.node;
      attributes = held_sound (λ a. are_attributes a ≡ true) p.attributes stamps 0 p.places made.0 (all_sound d p.attributes says.attributes) made.1;
      sequence = sequence_sound d p.sequence says.sequence;
    })

-- what a text with a form says
form_said : (body : List ℕ) (f : Parts × Data) → block_form body ≡ Some f → (d : Data) × Says d f.0
unfolding block_form
form_said body f e =
    let was = held-was form_in form_text body f e in
    let parts = and_then_some (λ parts. option_map (λ stamps. (parts, stamps)) (stamps_in was.json)) (parts_in was.json) f was.was_found in
    let stamps = map_some (λ stamps. (parts.0, stamps)) (stamps_in was.json) f parts.2 in
    (was.json, subst (λ (x : Parts × Data). Says was.json x.0) stamps.2 (parts_said was.json parts.0 parts.1))

-- the CIDR that a text says is one
pub cidr_said-sound : (body : List ℕ) (cidr : CidrValue) → cidr_said body ≡ Some cidr → IsCidr cidr
cidr_said-sound body cidr e =
    let (form, found, same) = map_some (λ f. f.0.cidr) (block_form body) cidr e in
    let (d, says) = form_said body form found in
    subst IsCidr same (cidr_sound d form.0.cidr says.cidr).0

ok_same : (x y : BlockValue) → ◌≡◌ {A = Result BlockValue BodyFault} (Ok x) (Ok y) → x ≡ y
ok_same x y e = cc

checked_ok : (body : List ℕ) (cidr : CidrValue) (o : Option BlockValue) (b : BlockValue) → checked body cidr o ≡ Ok b → (o ≡ Some b) × (block_body b ≡ body)
checked_ok body cidr None b e = absurd cc
checked_ok body cidr (Some c) b e = go (bytes_eq (block_body c) body) refl e
  where
    go : (t : Bool) → bytes_eq (block_body c) body ≡ t → cond t (Ok c) (Err (Unsound cidr)) ≡ Ok b → (Some c ≡ Some b) × (block_body b ≡ body)
    go true is e = (ap Some (ok_same c b e), sym (ap block_body (ok_same c b e)) ∙ (bytes_eq-Decides (block_body c) body).0 is)
    go false is e = absurd cc

-- what is read is the text of a sound block
pub block_reading-ok : (body : List ℕ) (b : BlockValue) → block_reading body ≡ Ok b → (body ≡ block_body b) × IsBlockRecord b
unfolding block_reading
block_reading-ok body b e = go (block_form body) refl e
  where
    go : (o : Option (Parts × Data)) → block_form body ≡ o → reading_from body o ≡ Ok b → (body ≡ block_body b) × IsBlockRecord b
    go None is e = absurd cc
    go (Some f) is e =
        let found = checked_ok body f.0.cidr (block_of_parts_in f.0 f.1) b e in
        let said = form_said body f is in
        (sym found.1, kept b (block_sound said.0 f.0 f.1 b said.1 found.0))
