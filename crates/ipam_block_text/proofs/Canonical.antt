-- The value of a sound block is canonical, and its parts are read from it.
use Rattle.std.proofs.Common.{◌≡◌, ◌∙◌, ℕ, suc, ◌^◌, ◌<◌, Bool, true, ◌&&◌, List, [], ◌∷◌, ◌++◌, length, get_or, map, Option, Some, None, cond, refl, ap, arith, decimal}
use Rattle.std.specs.Prelude.{option_and_then, All, fold, nat_le, codes, unwrap_or}
use Rattle.std.specs.List.{list_all, AllByRecursion}
use Rattle.std.proofs.lemmas.Bool.{and_parts}
use Rattle.serde_json.specs.Data.{Data, string, object, Members, no_members, put}
use Rattle.ipam_json.specs.Built.{member_list, whole_data}
use Rattle.ipam_json.specs.Canonical.{IsCanonicalWithin}
use Rattle.ipam_json.proofs.Constructors.{IsCanonicalWithin-null, IsCanonicalWithin-number, IsCanonicalWithin-string, IsCanonicalWithin-object, IsCanonicalWithin-put, member_list-members_from}
use Rattle.ipam_addr.specs.Names.{is_handle_text}
use Rattle.ipam_block.specs.declared.allocation.Allocation.{Allocation}
use Rattle.ipam_block.specs.declared.allocation.Attributes.{Attributes}
use Rattle.ipam_block.specs.declared.limits.TheConstants.{PAIRS_MAX}
use Rattle.ipam_block_text.specs.Attributes.{Pair}
use Rattle.ipam_block_text.specs.Limits.{are_pairs, is_small_pair, keys_ascend, are_attributes}
use Rattle.ipam_block_text.specs.Body.{host_data, place_data, with_pair, secondary_data, attributes_data, stamps_data}
use Rattle.ipam_block_text.specs.Reading.{each, if_passes, pair_in, place_in, attributes_in, handle_id_in, secondary_in}
use Rattle.ipam_block_text.proofs.PairKeys.{pair_field, pairs_members}

-- ---- what is written of each item is read of it

pub each-map : {A B C : Type 0} (f : B → Option C) (g : A → B) (h : A → C) (xs : List A) → All (λ x. f (g x) ≡ Some (h x)) xs → each f (map g xs) ≡ Some (map h xs)
each-map f g h [] all = refl
each-map f g h (x ∷ xs) all = rw (all 0 x (omega arith), each-map f g h xs (λ i d within. all (suc i) d (omega arith))) refl

map-itself : {A : Type 0} (xs : List A) → map (λ x. x) xs ≡ xs
map-itself [] = refl
map-itself (x ∷ xs) = ap (λ l. x ∷ l) (map-itself xs)

pub each-same : {A B : Type 0} (f : B → Option A) (g : A → B) (xs : List A) → All (λ x. f (g x) ≡ Some x) xs → each f (map g xs) ≡ Some xs
each-same f g xs all = each-map f g (λ x. x) xs all ∙ ap Some (map-itself xs)

-- ---- the pairs

secondary_listed : (pairs : List Pair) → keys_ascend pairs ≡ true → member_list (fold with_pair no_members pairs) ≡ map pair_field pairs
secondary_listed pairs up = ap member_list (pairs_members pairs up) ∙ member_list-members_from (map pair_field pairs)

pairs_read : (pairs : List Pair) → keys_ascend pairs ≡ true → each pair_in (member_list (fold with_pair no_members pairs)) ≡ Some pairs
unfolding pair_field
pairs_read pairs up = ap (each pair_in) (secondary_listed pairs up) ∙ each-same pair_in pair_field pairs (λ i d within. refl)

-- ---- the attributes

pairs_parts : (pairs : List Pair) → are_pairs pairs ≡ true → keys_ascend pairs ≡ true
pairs_parts pairs h = (and_parts (nat_le (length pairs) PAIRS_MAX && list_all is_small_pair pairs) (keys_ascend pairs) h).1

passes : {A : Type 0} (test : A → Bool) (x : A) → test x ≡ true → if_passes test x ≡ Some x
passes test x h = ap (λ b. cond b (Some x) None) h

secondary_read : (a : Attributes) → are_pairs a.secondary ≡ true → secondary_in (attributes_data a) ≡ Some a.secondary
unfolding secondary_in
secondary_read a h = ap (option_and_then (if_passes are_pairs)) (pairs_read a.secondary (pairs_parts a.secondary h)) ∙ passes are_pairs a.secondary h

handle_read : (a : Attributes) → is_handle_text a.handle ≡ true → handle_id_in (attributes_data a) ≡ Some a.handle
unfolding handle_id_in
handle_read a h = passes is_handle_text a.handle h

pub attributes_read : (a : Attributes) → are_attributes a ≡ true → attributes_in (attributes_data a) ≡ Some a
unfolding attributes_in
attributes_read a h =
    let parts = and_parts (is_handle_text a.handle) (are_pairs a.secondary) h in
    rw (handle_read a parts.0, secondary_read a parts.1) refl

pub place_read : (p : Option ℕ) → place_in (place_data p) ≡ Some p
place_read None = refl
place_read (Some i) = refl

-- ---- canonical values

fold_canonical : {A : Type 0} (name : A → List ℕ) (f : A → Data) (ms : Members) (all : List A) → All (λ a. IsCanonicalWithin 0 (f a)) all → IsCanonicalWithin 1 (object ms) → IsCanonicalWithin 1 (object (fold (λ (found : Members) (a : A). put (name a) (f a) found) ms all))
fold_canonical name f ms [] each h = h
fold_canonical name f ms (a ∷ rest) each h =
    fold_canonical name f (put (name a) (f a) ms) rest (λ i d within. each (suc i) d (omega arith))
    (IsCanonicalWithin-put 0 1 (name a) (f a) ms (omega arith) (each 0 a (omega arith)) h)

empty_canonical : IsCanonicalWithin 1 (object no_members)
empty_canonical = record { regular = tt; shallow = omega arith }

pub secondary_canonical : (pairs : List Pair) → IsCanonicalWithin 1 (secondary_data pairs)
secondary_canonical pairs = fold_canonical (λ p. p.0) (λ p. string p.1) no_members pairs (λ i d within. IsCanonicalWithin-string 0 (get_or pairs i d).1) empty_canonical

pub stamps_canonical : (xs : List Allocation) → All (λ a. a.stamp < 2 ^ 64) xs → IsCanonicalWithin 1 (stamps_data xs)
stamps_canonical xs small = fold_canonical (λ a. decimal a.ordinal) (λ a. whole_data a.stamp) no_members xs (λ i d within. IsCanonicalWithin-number 0 (get_or xs i d).stamp (small i d within)) empty_canonical

pub attributes_canonical : (a : Attributes) → IsCanonicalWithin 2 (attributes_data a)
attributes_canonical a =
    IsCanonicalWithin-object 1 2 ((codes "handle_id", string a.handle) ∷ (codes "secondary", secondary_data a.secondary) ∷ []) (omega arith)
    (refl, tt)
    (IsCanonicalWithin-string 1 a.handle, (secondary_canonical a.secondary, tt))

pub map_canonical : {A : Type 0} (levels : ℕ) (f : A → Data) (xs : List A) → All (λ x. IsCanonicalWithin levels (f x)) xs → AllByRecursion (IsCanonicalWithin levels) (map f xs)
map_canonical levels f [] h = tt
map_canonical levels f (x ∷ xs) h = (h 0 x (omega arith), map_canonical levels f xs (λ i d within. h (suc i) d (omega arith)))

pub affinity_canonical : (node : Option (List ℕ)) → IsCanonicalWithin 3 (host_data node)
affinity_canonical None = IsCanonicalWithin-null 3
affinity_canonical (Some n) = IsCanonicalWithin-string 3 (codes "host:" ++ n)

pub place_canonical : (p : Option ℕ) → unwrap_or p 0 < 2 ^ 64 → IsCanonicalWithin 2 (place_data p)
place_canonical None h = IsCanonicalWithin-null 2
place_canonical (Some i) h = IsCanonicalWithin-number 2 i h
