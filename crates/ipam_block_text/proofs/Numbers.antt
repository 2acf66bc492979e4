-- The index of attributes is found by a map, and the places of ordinals by a walk.
use Rattle.std.proofs.Common.{◌≡◌, ◌≢◌, ◌∙◌, ℕ, zero, suc, ◌+◌, ◌<◌, ◌≤◌, Bool, true, false, cond, List, [], ◌∷◌, ◌++◌, length, map, get_or, Option, Some, None, is_some, inl, inr, refl, sym, ap, arith, eq-eqb, ne_eqb, ◌||◌}
use Rattle.std.specs.Prelude.{AllPairs, find, position, option_and_then, ◌==◌}
use Rattle.std.specs.HashMap.{HashMap, get, Updates}
use Rattle.std.specs.List.{list_any, position_from}
use Rattle.std.specs.Map.{lookup}
use Rattle.std.proofs.lemmas.Bool.{cases_lt, cases_eq}
use Rattle.std.proofs.lemmas.Iterator.Adapters.{position_from-zero}
use Rattle.std.proofs.lemmas.List.Sums.{fold_push}
use Rattle.ipam_block.specs.declared.allocation.Allocation.{Allocation}
use Rattle.ipam_block.specs.declared.allocation.Attributes.{Attributes}
use Rattle.ipam_block.specs.Shape.{BlockValue}
use Rattle.ipam_block.specs.Operations.{holder}
use Rattle.ipam_block_text.specs.Attributes.{are_same, are_same_equiv, with_attributes, with_those_of, distinct_attributes}
use Rattle.ipam_block_text.specs.Numbering.{IsNumbering, placed, numbered_in, index_at}
use Rattle.ipam_block_text.specs.Parts.{holder_place}
use Rattle.ipam_block_text.proofs.ReadBack.{are_same-true, are_same-itself}

-- ---- the first place

pub either : {A : Type 0} → Option A → Option A → Option A
either (Some x) o = Some x
either None o = o

module _ {A : Type 0} (p : A → Bool) where
  from_push : (n : ℕ) (xs : List A) (y : A) → position_from p n (xs ++ y ∷ []) ≡ either (position_from p n xs) (cond (p y) (Some (n + length xs)) None)
  unfolding either
  from_push n [] y = last (p y)
    where
      last : (b : Bool) → cond b (Some n) None ≡ cond b (Some (n + 0)) None
      last true = let e : n ≡ n + 0 = omega arith in ap Some e
      last false = refl
  from_push n (x ∷ xs) y =
      let e : n + 1 + length xs ≡ n + suc (length xs) = omega arith in
      at (p x) (from_push (n + 1) xs y ∙ ap (λ k. either (position_from p (n + 1) xs) (cond (p y) (Some k) None)) e)
    where
      at : (b : Bool) → position_from p (n + 1) (xs ++ y ∷ []) ≡ either (position_from p (n + 1) xs) (cond (p y) (Some (n + suc (length xs))) None) → cond b (Some n) (position_from p (n + 1) (xs ++ y ∷ [])) ≡ either (cond b (Some n) (position_from p (n + 1) xs)) (cond (p y) (Some (n + suc (length xs))) None)
      at true later = refl
      at false later = later

  from_any : (n : ℕ) (xs : List A) → is_some (position_from p n xs) ≡ list_any p xs
  from_any n [] = refl
  from_any n (x ∷ xs) = at (p x) (from_any (n + 1) xs)
    where
      at : (b : Bool) → is_some (position_from p (n + 1) xs) ≡ list_any p xs → is_some (cond b (Some n) (position_from p (n + 1) xs)) ≡ (b || list_any p xs)
      at true later = refl
      at false later = later

  pub position_push : (xs : List A) (y : A) → position p (xs ++ y ∷ []) ≡ either (position p xs) (cond (p y) (Some (length xs)) None)
  position_push xs y =
      let e : 0 + length xs ≡ length xs = omega arith in
      position_from-zero p (xs ++ y ∷ []) ∙ from_push 0 xs y ∙ ap (λ k. either (position_from p 0 xs) (cond (p y) (Some k) None)) e
      ∙ ap (λ o. either o (cond (p y) (Some (length xs)) None)) (sym (position_from-zero p xs))

  pub position_any : (xs : List A) → is_some (position p xs) ≡ list_any p xs
  position_any xs = ap is_some (position_from-zero p xs) ∙ from_any 0 xs

-- ---- the map

pub IsNumbering-empty : {S : Type 0} → (m : HashMap Attributes ℕ S) → m.entries ≡ [] → IsNumbering m []
IsNumbering-empty m none = λ q. ap (lookup (are_same q)) none

-- attributes that are there
pub there_already : (found : List Attributes) (own : Attributes) (i : ℕ) → position (are_same own) found ≡ Some i → with_attributes found own ≡ found
there_already found own i e =
    let any = sym (position_any (are_same own) found) ∙ ap is_some e in
    ap (λ b. cond b found (found ++ own ∷ [])) any

new_attributes : (found : List Attributes) (own : Attributes) → position (are_same own) found ≡ None → with_attributes found own ≡ found ++ own ∷ []
new_attributes found own e =
    let any = sym (position_any (are_same own) found) ∙ ap is_some e in
    ap (λ b. cond b found (found ++ own ∷ [])) any

pub new_with : (found after : List Attributes) (own : Attributes) → position (are_same own) found ≡ None → after ≡ found ++ own ∷ [] → after ≡ with_attributes found own
new_with found after own none e = e ∙ sym (new_attributes found own none)

pub new_index : (found : List Attributes) (own : Attributes) → position (are_same own) found ≡ None → position (are_same own) (found ++ own ∷ []) ≡ Some (length found)
unfolding either
new_index found own none =
    position_push (are_same own) found own
    ∙ ap (λ o. either o (cond (are_same own own) (Some (length found)) None)) none
    ∙ ap (λ b. cond b (Some (length found)) None) (are_same-itself own)

-- what the map has at these attributes
pub found_index : {S : Type 0} → (m : HashMap Attributes ℕ S) (found : List Attributes) (own : Attributes) (r : Option ℕ) → IsNumbering m found → r ≡ get are_same m own → position (are_same own) found ≡ r
found_index m found own r numbers e = sym (e ∙ numbers own)

pub numbering_more : {S : Type 0} → (m n : HashMap Attributes ℕ S) (found after : List Attributes) (own : Attributes) → IsNumbering m found → position (are_same own) found ≡ None → Updates are_same m n own (Some (length found)) → after ≡ found ++ own ∷ [] → IsNumbering n after
unfolding either
numbering_more m n found after own numbers none updates pushed q =
    updates.0 q
    ∙ ap (λ b. cond b (Some (length found)) (get are_same m q)) (are_same_equiv.symm own q)
    ∙ ap (cond (are_same q own) (Some (length found))) (numbers q)
    ∙ last (are_same q own) refl
    ∙ sym (position_push (are_same q) found own)
    ∙ ap (position (are_same q)) (sym pushed)
  where
    last : (b : Bool) → are_same q own ≡ b → cond b (Some (length found)) (position (are_same q) found) ≡ either (position (are_same q) found) (cond b (Some (length found)) None)
    last true e =
        let same = are_same-true q own e in
        let gone = ap (λ x. position (are_same x) found) same ∙ none in
        ap (λ o. either o (Some (length found))) (sym gone)
    last false e = none_more (position (are_same q) found)
      where
        none_more : (o : Option ℕ) → o ≡ either o None
        none_more (Some i) = refl
        none_more None = refl

-- ---- all allocations

-- attributes that are there keep their place
kept : (found : List Attributes) (own a : Attributes) (i : ℕ) → Some i ≡ position (are_same a) found → position (are_same a) found ≡ position (are_same a) (with_attributes found own)
unfolding either
kept found own a i e = go (list_any (are_same own) found)
  where
    go : (b : Bool) → position (are_same a) found ≡ position (are_same a) (cond b found (found ++ own ∷ []))
    go true = refl
    go false =
        sym e ∙ ap (λ o. either o (cond (are_same a own) (Some (length found)) None)) e
        ∙ sym (position_push (are_same a) found own)

pair_places : (p : ℕ × ℕ) (o : ℕ) (q : Option ℕ) → placed p ≡ (o, q) → Some p.1 ≡ q
pair_places p o q e = ap (λ (x : ℕ × Option ℕ). x.1) e

all_kept : (held : List (ℕ × ℕ)) (found : List Attributes) (own : Attributes) (xs : List Allocation) → map placed held ≡ map (numbered_in found) xs → map placed held ≡ map (numbered_in (with_attributes found own)) xs
all_kept [] found own [] e = refl
all_kept [] found own (x ∷ xs) e = absurd cc
all_kept (p ∷ held) found own [] e = absurd cc
all_kept (p ∷ held) found own (x ∷ xs) e =
    let both = heads _ _ _ _ e in
    let same = kept found own x.attributes p.1 (pair_places p x.ordinal _ both.0) in
    joined _ _ _ _ (both.0 ∙ ap (λ q. (x.ordinal, q)) same) (all_kept held found own xs both.1)
  where
    heads : (y z : ℕ × Option ℕ) (ys zs : List (ℕ × Option ℕ)) → (y ∷ ys) ≡ (z ∷ zs) → (y ≡ z) × (ys ≡ zs)
    heads y z ys zs e = (cc, cc)

    joined : (y z : ℕ × Option ℕ) (ys zs : List (ℕ × Option ℕ)) → y ≡ z → ys ≡ zs → (y ∷ ys) ≡ (z ∷ zs)
    joined y z ys zs e f = cc

map_push : {A B : Type 0} (f : A → B) (xs : List A) (y : A) → map f (xs ++ y ∷ []) ≡ map f xs ++ f y ∷ []
map_push f [] y = refl
map_push f (x ∷ xs) y = ap (λ l. f x ∷ l) (map_push f xs y)

-- one allocation more
pub held_more : (held after : List (ℕ × ℕ)) (found next : List Attributes) (xs ys : List Allocation) (a : Allocation) (i : ℕ) → map placed held ≡ map (numbered_in found) xs → next ≡ with_attributes found a.attributes → position (are_same a.attributes) next ≡ Some i → after ≡ held ++ (a.ordinal, i) ∷ [] → ys ≡ xs ++ a ∷ [] → map placed after ≡ map (numbered_in next) ys
held_more held after found next xs ys a i h grown is pushed more =
    let before : map placed held ≡ map (numbered_in next) xs = all_kept held found a.attributes xs h ∙ ap (λ l. map (numbered_in l) xs) (sym grown) in
    ap (map placed) pushed ∙ map_push placed held (a.ordinal, i)
    ∙ ap (λ l. l ++ (a.ordinal, Some i) ∷ []) before
    ∙ ap (λ o. map (numbered_in next) xs ++ (a.ordinal, o) ∷ []) (sym is)
    ∙ sym (map_push (numbered_in next) xs a)
    ∙ ap (map (numbered_in next)) (sym more)

distinct_push : (xs : List Allocation) (a : Allocation) → distinct_attributes (xs ++ a ∷ []) ≡ with_attributes (distinct_attributes xs) a.attributes
distinct_push xs a = fold_push with_those_of [] xs a

-- the attributes of one allocation more
pub attributes_more : (found next : List Attributes) (xs ys : List Allocation) (a : Allocation) → found ≡ distinct_attributes xs → next ≡ with_attributes found a.attributes → ys ≡ xs ++ a ∷ [] → next ≡ distinct_attributes ys
attributes_more found next xs ys a h grown more =
    grown ∙ ap (λ l. with_attributes l a.attributes) h ∙ sym (distinct_push xs a) ∙ ap distinct_attributes (sym more)

-- ---- the walk over the ordinals

lookup-here : (o : ℕ) (xs : List (ℕ × ℕ)) (i : ℕ) → i < length xs → ((k : ℕ) (d : ℕ × ℕ) → k < i → (get_or xs k d).0 ≢ o) → (d : ℕ × ℕ) → (get_or xs i d).0 ≡ o → index_at xs o ≡ Some (get_or xs i d).1
lookup-here o [] i within others d here = absurd (omega arith)
lookup-here o (x ∷ xs) zero within others d here = rw (eq-eqb x.0 o here) refl
lookup-here o (x ∷ xs) (suc i) within others d here =
    rw (ne_eqb x.0 o (others 0 x (omega arith)))
    (lookup-here o xs i (omega arith) (λ k e before. others (suc k) e (omega arith)) d here)

lookup-none : (o : ℕ) (xs : List (ℕ × ℕ)) → ((k : ℕ) (d : ℕ × ℕ) → k < length xs → (get_or xs k d).0 ≢ o) → index_at xs o ≡ None
lookup-none o [] others = refl
lookup-none o (x ∷ xs) others =
    rw (ne_eqb x.0 o (others 0 x (omega arith)))
    (lookup-none o xs (λ k d within. others (suc k) d (omega arith)))

pub same_default : (xs : List (ℕ × ℕ)) (i : ℕ) (e f : ℕ × ℕ) → i < length xs → get_or xs i e ≡ get_or xs i f
same_default [] i e f under = absurd (omega arith)
same_default (x ∷ xs) zero e f under = refl
same_default (x ∷ xs) (suc i) e f under = same_default xs i e f (omega arith)

-- the places before the next are of lower ordinals, and the others of no lower ones
pub record IsAt (held : List (ℕ × ℕ)) (next o : ℕ) : Type 0 where
  pub passed : (k : ℕ) (d : ℕ × ℕ) → k < next → (get_or held k d).0 < o
  pub ahead : (k : ℕ) (d : ℕ × ℕ) → next ≤ k → k < length held → o ≤ (get_or held k d).0

abbrev Ascending : List (ℕ × ℕ) → Type 0
Ascending held = AllPairs (λ x y. x.0 < y.0) held

pub held_here : (held : List (ℕ × ℕ)) (next o : ℕ) (d : ℕ × ℕ) → Ascending held → IsAt held next o → next < length held → (get_or held next d).0 ≡ o → (index_at held o ≡ Some (get_or held next d).1) × IsAt held (next + 1) (o + 1)
held_here held next o d up at within here = (
  lookup-here o held next within (λ k e before same. let low = at.passed k e before in omega arith) d here,
  record {
    passed = λ k e before. elim (cases_lt k next) [
      | inl lower ↦ let low = at.passed k e lower in omega arith
      | inr reached ↦
          let same : k ≡ next = omega arith in
          let none = at.ahead k e (omega arith) (omega arith) in
          let is : (get_or held k e).0 ≡ o = ap (λ j. (get_or held j e).0) same ∙ any_default e in
          omega arith
    ];
    ahead = λ k e from under.
        let less = up next k e (omega arith) under in
        let is = any_default e in
        omega arith;
  },
)
  where
    any_default : (e : ℕ × ℕ) → (get_or held next e).0 ≡ o
    any_default e = ap (λ (x : ℕ × ℕ). x.0) (same_default held next e d within) ∙ here

above : (o n : ℕ) → o ≤ n → n ≢ o → o + 1 ≤ n
above o n least different = elim (cases_lt o n) [
  | inl more ↦ omega arith
  | inr reached ↦ absurd (different (omega arith))
]

pub held_elsewhere : (held : List (ℕ × ℕ)) (next o : ℕ) → Ascending held → IsAt held next o → ((d : ℕ × ℕ) → next < length held → (get_or held next d).0 ≢ o) → (index_at held o ≡ None) × IsAt held next (o + 1)
held_elsewhere held next o up at other = (
  lookup-none o held (λ k d within same. elim (cases_lt k next) [
    | inl lower ↦ let low = at.passed k d lower in omega arith
    | inr reached ↦ let above = later k d reached within in omega arith
  ]),
  record {
    passed = λ k d before. let low = at.passed k d before in omega arith;
    ahead = λ k d from under. later k d from under;
  },
)
  where
    later : (k : ℕ) (d : ℕ × ℕ) → next ≤ k → k < length held → o + 1 ≤ (get_or held k d).0
    later k d from under = elim (cases_eq k next) [
      | inl same ↦
          let least = at.ahead k d from under in
          let not_here : (get_or held k d).0 ≢ o = λ e. other d (omega arith) (sym (ap (λ j. (get_or held j d).0) same) ∙ e) in
          above o (get_or held k d).0 least not_here
      | inr further ↦
          let least = at.ahead next d (omega arith) (omega arith) in
          let less = up next k d (omega arith) under in
          omega arith
    ]

-- ---- what the block says

-- the walk finds the places of the block
place_found : (held : List (ℕ × ℕ)) (found : List Attributes) (xs : List Allocation) (o : ℕ) → map placed held ≡ map (numbered_in found) xs → index_at held o ≡ option_and_then (λ a. position (are_same a.attributes) found) (find (λ a. a.ordinal == o) xs)
place_found [] found [] o e = refl
place_found [] found (x ∷ xs) o e = absurd cc
place_found (p ∷ held) found [] o e = absurd cc
place_found (p ∷ held) found (x ∷ xs) o e =
    let both = heads _ _ _ _ e in
    let ordinal : p.0 ≡ x.ordinal = ap (λ (y : ℕ × Option ℕ). y.0) both.0 in
    ap (λ n. cond (n == o) (Some p.1) (index_at held o)) ordinal
    ∙ at (x.ordinal == o) (pair_places p x.ordinal _ both.0) (place_found held found xs o both.1)
  where
    heads : (y z : ℕ × Option ℕ) (ys zs : List (ℕ × Option ℕ)) → (y ∷ ys) ≡ (z ∷ zs) → (y ≡ z) × (ys ≡ zs)
    heads y z ys zs e = (cc, cc)

    at : (b : Bool) → Some p.1 ≡ position (are_same x.attributes) found → index_at held o ≡ option_and_then (λ a. position (are_same a.attributes) found) (find (λ a. a.ordinal == o) xs) → cond b (Some p.1) (index_at held o) ≡ option_and_then (λ a. position (are_same a.attributes) found) (cond b (Some x) (find (λ a. a.ordinal == o) xs))
    at true here later = here
    at false here later = later

pub places_found : (held : List (ℕ × ℕ)) (b : BlockValue) (os : List ℕ) → map placed held ≡ map (numbered_in (distinct_attributes b.allocations)) b.allocations → map (index_at held) os ≡ map (holder_place (distinct_attributes b.allocations) b) os
unfolding holder_place
places_found held b [] e = refl
places_found held b (o ∷ os) e =
    let here = place_found held (distinct_attributes b.allocations) b.allocations o e in
    let rest = places_found held b os e in
    ap (λ x. x ∷ map (index_at held) os) here
    ∙ ap (λ l. option_and_then (λ a. position (are_same a.attributes) (distinct_attributes b.allocations)) (holder b o) ∷ l) rest

-- the held ordinals ascend as the allocations do
pub held_ascends : (held : List (ℕ × ℕ)) (found : List Attributes) (xs : List Allocation) → map placed held ≡ map (numbered_in found) xs → AllPairs (λ x y. x.ordinal < y.ordinal) xs → Ascending held
held_ascends held found xs e up i j d before within =
    let a : Allocation = record { ordinal = d.0; attributes = record { handle = []; secondary = [] }; stamp = 0 } in
    let long = lengths held xs e in
    let less = up i j a before (omega arith) in
    let at_i = ordinals held xs e i d a (omega arith) in
    let at_j = ordinals held xs e j d a within in
    omega arith
  where
    tails : (y z : ℕ × Option ℕ) (ys zs : List (ℕ × Option ℕ)) → (y ∷ ys) ≡ (z ∷ zs) → (y.0 ≡ z.0) × (ys ≡ zs)
    tails y z ys zs e = let same : y ≡ z = cc in (ap (λ (p : ℕ × Option ℕ). p.0) same, cc)

    lengths : (ps : List (ℕ × ℕ)) (as' : List Allocation) → map placed ps ≡ map (numbered_in found) as' → length ps ≡ length as'
    lengths [] [] e = refl
    lengths [] (a ∷ as') e = absurd cc
    lengths (p ∷ ps) [] e = absurd cc
    lengths (p ∷ ps) (a ∷ as') e = ap suc (lengths ps as' (tails _ _ _ _ e).1)

    ordinals : (ps : List (ℕ × ℕ)) (as' : List Allocation) → map placed ps ≡ map (numbered_in found) as' → (k : ℕ) (p : ℕ × ℕ) (a : Allocation) → k < length ps → (get_or ps k p).0 ≡ (get_or as' k a).ordinal
    ordinals [] as' e k p a under = absurd (omega arith)
    ordinals (q ∷ ps) [] e k p a under = absurd cc
    ordinals (q ∷ ps) (b ∷ as') e zero p a under = (tails _ _ _ _ e).0
    ordinals (q ∷ ps) (b ∷ as') e (suc k) p a under = ordinals ps as' (tails _ _ _ _ e).1 k p a (omega arith)
