-- Pairs whose keys ascend are sorted by them, and are put into an object in this order.
use Rattle.std.proofs.Common.{◌≡◌, ◌∙◌, ℕ, true, List, [], ◌∷◌, ◌++◌, map, Ordering, Less, Equal, Greater, nat_cmp, refl, sym, ap, subst, append-nil, append_assoc}
use Rattle.std.specs.Prelude.{fold}
use Rattle.std.specs.List.{AllByRecursion}
use Rattle.std.specs.List.Sorted.{IsStrictlySortedBy}
use Rattle.std.specs.Ordering.{is_lt}
use Rattle.std.specs.Cmp.Lexicographic.{slice_cmp, nat_list_cmp_total}
use Rattle.std.proofs.lemmas.Bool.{and_parts, and_from}
use Rattle.serde_json.specs.Data.{string, no_members}
use Rattle.ipam_json.specs.Built.{Field, members_from, names, IsAscending}
use Rattle.ipam_json.proofs.Constructors.{put-members_from}
use Rattle.ipam_block_text.specs.Attributes.{Pair}
use Rattle.ipam_block_text.specs.Body.{with_pair}
use Rattle.ipam_block_text.specs.Limits.{keys_ascend, ascend_after}

pub less_lt : (o : Ordering) → is_lt o ≡ true → o ≡ Less
less_lt Less h = refl
less_lt Equal h = absurd cc
less_lt Greater h = absurd cc

-- ---- sorted

keys : List Pair → List (List ℕ)
keys pairs = map (λ pair. pair.0) pairs

below_all : (key next : List ℕ) (ks : List (List ℕ)) → slice_cmp nat_cmp key next ≡ Less → AllByRecursion (λ k. slice_cmp nat_cmp next k ≡ Less) ks → AllByRecursion (λ k. slice_cmp nat_cmp key k ≡ Less) ks
below_all key next [] less h = tt
below_all key next (k ∷ ks) less h = (nat_list_cmp_total.trans key next k less h.0, below_all key next ks less h.1)

after_sorted : (key : List ℕ) (pairs : List Pair) → ascend_after key pairs ≡ true → IsStrictlySortedBy (slice_cmp nat_cmp) (key ∷ keys pairs)
unfolding IsStrictlySortedBy keys
after_sorted key [] h = (tt, tt)
after_sorted key (p ∷ pairs) h =
    let parts = and_parts (is_lt (slice_cmp nat_cmp key p.0)) (ascend_after p.0 pairs) h in
    let less = less_lt (slice_cmp nat_cmp key p.0) parts.0 in
    let rest = after_sorted p.0 pairs parts.1 in
    ((less, below_all key p.0 (keys pairs) less rest.0), rest)

sorted_after : (key : List ℕ) (pairs : List Pair) → IsStrictlySortedBy (slice_cmp nat_cmp) (key ∷ keys pairs) → ascend_after key pairs ≡ true
unfolding IsStrictlySortedBy keys
sorted_after key [] h = refl
sorted_after key (p ∷ pairs) h = and_from _ _ (ap is_lt (h.0).0) (sorted_after p.0 pairs h.1)

pub keys_sorted : (pairs : List Pair) → keys_ascend pairs ≡ true → IsStrictlySortedBy (slice_cmp nat_cmp) (map (λ pair. pair.0) pairs)
unfolding IsStrictlySortedBy keys
keys_sorted [] h = tt
keys_sorted (p ∷ pairs) h = after_sorted p.0 pairs h

pub sorted_keys : (pairs : List Pair) → IsStrictlySortedBy (slice_cmp nat_cmp) (map (λ pair. pair.0) pairs) → keys_ascend pairs ≡ true
unfolding keys
sorted_keys [] h = refl
sorted_keys (p ∷ pairs) h = sorted_after p.0 pairs h

-- ---- put into an object

unfoldable pub pair_field : Pair → Field
pair_field p = (p.0, string p.1)

pair_names : (pairs : List Pair) → names (map pair_field pairs) ≡ map (λ p. p.0) pairs
unfolding pair_field
pair_names [] = refl
pair_names (p ∷ pairs) = ap (λ l. p.0 ∷ l) (pair_names pairs)

after_ascends : (key : List ℕ) (pairs : List Pair) → ascend_after key pairs ≡ true → IsAscending (key ∷ map (λ p. p.0) pairs)
after_ascends key [] h = tt
after_ascends key (p ∷ pairs) h =
    let parts = and_parts (is_lt (slice_cmp nat_cmp key p.0)) (ascend_after p.0 pairs) h in
    (less_lt _ parts.0, after_ascends p.0 pairs parts.1)

keys_are_ascending : (pairs : List Pair) → keys_ascend pairs ≡ true → IsAscending (names (map pair_field pairs))
keys_are_ascending [] h = tt
keys_are_ascending (p ∷ pairs) h = subst IsAscending (sym (pair_names (p ∷ pairs))) (after_ascends p.0 pairs h)

front_ascends : (ks : List (List ℕ)) (more : List (List ℕ)) → IsAscending (ks ++ more) → IsAscending ks
front_ascends [] more h = tt
front_ascends (k ∷ []) more h = tt
front_ascends (k ∷ l ∷ ks) more h = (h.0, front_ascends (l ∷ ks) more h.1)

names-append : (ms ns : List Field) → names (ms ++ ns) ≡ names ms ++ names ns
names-append [] ns = refl
names-append (m ∷ ms) ns = ap (λ l. m.0 ∷ l) (names-append ms ns)

pairs_put : (done : List Field) (pairs : List Pair) → IsAscending (names (done ++ map pair_field pairs)) → fold with_pair (members_from done) pairs ≡ members_from (done ++ map pair_field pairs)
unfolding pair_field
pairs_put done [] up = ap members_from (sym (append-nil done))
pairs_put done (p ∷ pairs) up =
    let rest = map pair_field pairs in
    let joined = append_assoc done (pair_field p ∷ []) rest in
    let up_joined = subst (λ l. IsAscending (names l)) (sym joined) up in
    let up_front = front_ascends (names (done ++ pair_field p ∷ [])) (names rest) (subst IsAscending (names-append (done ++ pair_field p ∷ []) rest) up_joined) in
    let placed = put-members_from done p.0 (string p.1) up_front in
    ap (λ ms. fold with_pair ms pairs) placed ∙ pairs_put (done ++ pair_field p ∷ []) pairs up_joined ∙ ap members_from joined

pub pairs_members : (pairs : List Pair) → keys_ascend pairs ≡ true → fold with_pair no_members pairs ≡ members_from (map pair_field pairs)
pairs_members pairs up = pairs_put [] pairs (keys_are_ascending pairs up)
