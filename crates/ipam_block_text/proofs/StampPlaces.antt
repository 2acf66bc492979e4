-- The stamps go to the places that an object gives to members.
use Rattle.std.proofs.Common.{◌≡◌, ◌∙◌, ℕ, zero, suc, ◌+◌, ◌-◌, ◌<◌, ◌^◌, ◌≢◌, true, false, List, [], ◌∷◌, ◌++◌, length, get_or, drop, map, Less, Equal, Greater, Ordering, nat_cmp, decimal, refl, sym, ap, subst, arith, add-one, drop-cons}
use Rattle.std.specs.Prelude.{option_map, unwrap_or, slice_get}
use Rattle.std.specs.Ordering.{is_lt, ordering_reverse}
use Rattle.std.specs.Cmp.Lexicographic.{slice_cmp}
use Rattle.std.proofs.lemmas.Cmp.{tied_itself, nat_list_cmp_total}
use Rattle.std.proofs.lemmas.Fmt.{decimal_injective}
use Rattle.std.proofs.lemmas.Map.Lookups.{exact_bytes}
use Rattle.serde_json.specs.Data.{member, put}
use Rattle.ipam_json.specs.Built.{names, IsAscending, whole_data}
use Rattle.ipam_json.specs.Canonical.{IsBeforeFirst}
use Rattle.ipam_block_text.specs.Stamps.{Stamp, stamp_field, stamp_members, AreInOrder, AreBefore, comes_before, ends_before, stands_before}
use Rattle.ipam_block_text.proofs.PairKeys.{less_lt}

less : (first second : ℕ) → comes_before first second ≡ true → slice_cmp nat_cmp (decimal first) (decimal second) ≡ Less
less first second h = less_lt (slice_cmp nat_cmp (decimal first) (decimal second)) h

greater : (first second : ℕ) → comes_before first second ≡ true → slice_cmp nat_cmp (decimal second) (decimal first) ≡ Greater
greater first second h = nat_list_cmp_total.antisymm (decimal second) (decimal first) ∙ ap ordering_reverse (less first second h)

-- ---- those before the ordinal

pub within_place : (stamps : List Stamp) (o place : ℕ) → stands_before stamps place o ≡ true → place < length stamps
within_place [] o place h = absurd cc
within_place (s ∷ stamps) o zero h = omega arith
within_place (s ∷ stamps) o (suc place) h = omega (arith, within_place stamps o place h)

pub stands_at : (stamps : List Stamp) (o place : ℕ) (d : Stamp) → stands_before stamps place o ≡ true → comes_before (get_or stamps place d).0 o ≡ true
stands_at [] o place d h = absurd cc
stands_at (s ∷ stamps) o zero d h = h
stands_at (s ∷ stamps) o (suc place) d h = stands_at stamps o place d h

pub before_push : (stamps : List Stamp) (own : Stamp) (o : ℕ) → AreBefore o stamps → comes_before own.0 o ≡ true → AreBefore o (stamps ++ own ∷ [])
before_push [] own o all h = (h, tt)
before_push (s ∷ stamps) own o all h = (all.0, before_push stamps own o all.1 h)

pub front_in_order : (front rest : List Stamp) → AreInOrder (front ++ rest) → AreInOrder front
front_in_order [] rest up = tt
front_in_order (s ∷ []) rest up = tt
front_in_order (s ∷ t ∷ front) rest up = (up.0, front_in_order (t ∷ front) rest up.1)

pub all_before : (stamps : List Stamp) (o : ℕ) → AreInOrder stamps → ends_before stamps o ≡ true → AreBefore o stamps
all_before [] o up h = tt
all_before (s ∷ []) o up h = (h, tt)
all_before (s ∷ t ∷ stamps) o up h =
    let past : suc (suc (length stamps)) - 1 ≡ suc (suc (length stamps) - 1) = omega arith in
    let last = sym (ap (λ i. unwrap_or (option_map (λ (x : Stamp). comes_before x.0 o) (slice_get (s ∷ t ∷ stamps) i)) true) past) ∙ h in
    let more = all_before (t ∷ stamps) o up.1 last in
    let first = nat_list_cmp_total.trans (decimal s.0) (decimal t.0) (decimal o) up.0 (less t.0 o more.0) in
    (ap is_lt first, more)

-- ---- a new ordinal

follows : (first second : ℕ) → comes_before first second ≡ false → (decimal first ≡ decimal second → ⊥) → slice_cmp nat_cmp (decimal second) (decimal first) ≡ Less
follows first second h other = at (slice_cmp nat_cmp (decimal first) (decimal second)) refl h
  where
    at : (r : Ordering) → slice_cmp nat_cmp (decimal first) (decimal second) ≡ r → is_lt r ≡ false → slice_cmp nat_cmp (decimal second) (decimal first) ≡ Less
    at Less e h = absurd cc
    at Equal e h = absurd (other (exact_bytes (decimal first) (decimal second) e))
    at Greater e h = nat_list_cmp_total.antisymm (decimal second) (decimal first) ∙ ap ordering_reverse e

-- the ordinal comes before those from its place on
pub rest_after : (stamps : List Stamp) (o place : ℕ) → o < 2 ^ 64 → stands_before stamps place o ≡ false → ((d : Stamp) → place < length stamps → ((get_or stamps place d).0 < 2 ^ 64) × ((get_or stamps place d).0 ≢ o))
    → IsBeforeFirst (decimal o) (stamp_members (drop place stamps))
rest_after [] o zero fits h other = tt
rest_after [] o (suc place) fits h other = tt
rest_after (s ∷ stamps) o zero fits h other = let here = other s (omega arith) in follows s.0 o h (λ e. here.1 (decimal_injective s.0 o here.0 fits e))
rest_after (s ∷ stamps) o (suc place) fits h other = rest_after stamps o place fits h (λ d within. other d (omega arith))

pub new_members : (front rest : List Stamp) (own : Stamp) → AreBefore own.0 front → IsBeforeFirst (decimal own.0) (stamp_members rest)
    → stamp_members ((front ++ own ∷ []) ++ rest) ≡ put (decimal own.0) (whole_data own.1) (stamp_members (front ++ rest))
new_members [] [] own all first = refl
new_members [] (s ∷ rest) own all first = rw first refl
new_members (s ∷ front) rest own all first = rw (greater s.0 own.0 all.0) (ap (member (decimal s.0) (whole_data s.1)) (new_members front rest own all.1 first))

pub new_order : (front rest : List Stamp) (own : Stamp) → AreInOrder (front ++ rest) → AreBefore own.0 front → IsBeforeFirst (decimal own.0) (stamp_members rest)
    → AreInOrder ((front ++ own ∷ []) ++ rest)
new_order [] [] own up all first = tt
new_order [] (s ∷ rest) own up all first = (first, up)
new_order (s ∷ []) [] own up all first = (less s.0 own.0 all.0, tt)
new_order (s ∷ []) (t ∷ rest) own up all first = (less s.0 own.0 all.0, (first, up.1))
new_order (s ∷ t ∷ front) rest own up all first = (up.0, new_order (t ∷ front) rest own up.1 all.1 first)

-- ---- an ordinal that is there

set_members : (front rest : List Stamp) (s own : Stamp) → s.0 ≡ own.0 → AreBefore own.0 front
    → stamp_members ((front ++ own ∷ []) ++ rest) ≡ put (decimal own.0) (whole_data own.1) (stamp_members (front ++ s ∷ rest))
set_members [] rest s own same all =
    let tied : slice_cmp nat_cmp (decimal own.0) (decimal s.0) ≡ Equal = ap (λ o. slice_cmp nat_cmp (decimal own.0) (decimal o)) same ∙ tied_itself nat_list_cmp_total (decimal own.0) in
    rw tied (ap (λ o. member (decimal o) (whole_data own.1) (stamp_members rest)) (sym same))
set_members (t ∷ front) rest s own same all =
    rw (greater t.0 own.0 all.0) (ap (member (decimal t.0) (whole_data t.1)) (set_members front rest s own same all.1))

set_names : (front rest : List Stamp) (s own : Stamp) → s.0 ≡ own.0
    → names (map stamp_field (front ++ s ∷ rest)) ≡ names (map stamp_field ((front ++ own ∷ []) ++ rest))
set_names [] rest s own same = ap (λ o. decimal o ∷ names (map stamp_field rest)) same
set_names (t ∷ front) rest s own same = ap (λ ns. decimal t.0 ∷ ns) (set_names front rest s own same)

pub same_members : (front stamps : List Stamp) (place : ℕ) (own d : Stamp) → place < length stamps → (get_or stamps place d).0 ≡ own.0 → AreBefore own.0 front
    → stamp_members ((front ++ own ∷ []) ++ drop (place + 1) stamps) ≡ put (decimal own.0) (whole_data own.1) (stamp_members (front ++ drop place stamps))
same_members front stamps place own d within same all =
    rw (add-one, drop-cons stamps place d within) (set_members front (drop (suc place) stamps) (get_or stamps place d) own same all)

pub same_order : (front stamps : List Stamp) (place : ℕ) (own d : Stamp) → place < length stamps → (get_or stamps place d).0 ≡ own.0 → AreInOrder (front ++ drop place stamps)
    → AreInOrder ((front ++ own ∷ []) ++ drop (place + 1) stamps)
same_order front stamps place own d within same up =
    let left : drop place stamps ≡ get_or stamps place d ∷ drop (suc place) stamps = drop-cons stamps place d within in
    let up' = subst (λ (rest : List Stamp). AreInOrder (front ++ rest)) left up in
    rw add-one (subst IsAscending (set_names front (drop (suc place) stamps) (get_or stamps place d) own same) up')
