-- Rows as texts, by ascending key: what is found is a member, and rows with the same members are the
-- same in another order.
use Rattle.std.proofs.Common.{◌≡◌, ◌≢◌, ℕ, zero, suc, inl, inr, true, false, List, [], ◌∷◌, ◌++◌, map, Some, refl, sym, ap, ◌∙◌, subst, arith}
use Rattle.std.specs.Prelude.{AllPairs, Contains}
use Rattle.std.specs.declared.cmp.Ordering.{Ordering}
use Rattle.std.specs.declared.cmp.Ordering.TheVariants.{Less, Equal, Greater}
use Rattle.std.specs.Cmp.{tied_itself}
use Rattle.std.specs.List.{AllByRecursion}
use Rattle.std.specs.List.Sorted.{IsPermutation, IsStrictlySortedBy}
use Rattle.std.specs.Ordering.{is_eq}
use Rattle.std.proofs.lemmas.Bool.{cases_Bool}
use Rattle.std.proofs.lemmas.List.Elements.{Contains-append_cases, Contains-append_left, Contains-append_right}
use Rattle.std.proofs.lemmas.List.Kept.{AllPairs-cons}
use Rattle.std.proofs.lemmas.List.Sorted.{IsPermutation-cons, IsPermutation-middle, IsPermutation-refl, IsPermutation-sym, IsPermutation-trans}
use Rattle.std.proofs.lemmas.Map.Lookups.{exact_bytes}
use Rattle.ipam_records.specs.declared.call.Row.{Row}
use Rattle.ipam_keeper.specs.Rows.{Ascend, row_key_text, row_of, text_cmp, texts_equal}
use Rattle.ipam_keeper.proofs.Searching.{text_total}
use Rattle.ipam_laws.proofs.Members.{all-of, in-cons, in-find, in-here, in-nothing, in-there}
use Rattle.ipam_laws.proofs.OpenedRows.{split-at}
use Rattle.ipam_model.specs.Opened.{AreByKey}

-- ---- the two ways to say that keys ascend

pub ascend-by_key : (rows : List Row) → Ascend rows → AreByKey rows
unfolding IsStrictlySortedBy
ascend-by_key [] h = tt
ascend-by_key (row ∷ rows) h = (h.0, ascend-by_key rows h.1)

pub by_key-ascend : (rows : List Row) → AreByKey rows → Ascend rows
unfolding IsStrictlySortedBy
by_key-ascend [] h = tt
by_key-ascend (row ∷ rows) h = (h.0, by_key-ascend rows h.1)

-- ---- what is found

pub equal-texts : (a b : List ℕ) → texts_equal a b ≡ true → a ≡ b
equal-texts a b e = exact_bytes a b (from (text_cmp a b) e)
  where
    from : (o : Ordering) → is_eq o ≡ true → o ≡ Equal
    from Less e = cc e
    from Equal e = refl
    from Greater e = cc e

pub text-itself : (a : List ℕ) → texts_equal a a ≡ true
text-itself a = ap is_eq (tied_itself text_total a)

pub other-texts : (a b : List ℕ) → a ≢ b → texts_equal a b ≡ false
other-texts a b differ = elim (cases_Bool (texts_equal a b)) [
  | inl same ↦ absurd (differ (equal-texts a b same))
  | inr other ↦ other
]

-- what is found is a member with the key
pub found-member : (key : List ℕ) (rows : List Row) (row : Row) → row_of key rows ≡ Some row → Contains rows row × (row.key ≡ key)
found-member key rows row e =
    let (there, same) = in-find (λ (r : Row). texts_equal (row_key_text r) key) row rows e in
    (there, equal-texts row.key key same)

less-than : (key : List ℕ) (rows : List Row) (row : Row) → AllByRecursion (λ other. text_cmp key other ≡ Less) (map row_key_text rows) → Contains rows row → text_cmp key row.key ≡ Less
less-than key [] row all h = absurd (in-nothing row h)
less-than key (first ∷ rest) row all h = elim (in-cons row first rest h) [
  | inl is ↦ subst (λ (r : Row). text_cmp key r.key ≡ Less) is all.0
  | inr there ↦ less-than key rest row all.1 there
]

never-less : (key : List ℕ) → text_cmp key key ≢ Less
never-less key e = let t = tied_itself text_total key in cc (e, t)

-- a member is found by its key
pub member-found : (rows : List Row) (row : Row) → Ascend rows → Contains rows row → row_of row.key rows ≡ Some row
member-found [] row s h = absurd (in-nothing row h)
member-found (first ∷ rest) row s h = elim (in-cons row first rest h) [
  | inl is ↦ subst (λ (r : Row). row_of r.key (first ∷ rest) ≡ Some r) is (rw (text-itself first.key) refl)
  | inr there ↦
      let less = less-than first.key rest row s.0 there in
      let other = other-texts first.key row.key (λ e. never-less first.key (ap (text_cmp first.key) e ∙ less)) in
      rw other (member-found rest row s.1 there)
]

-- ---- the same in another order

pub rows-differ : (rows : List Row) → Ascend rows → AllPairs (λ (r s : Row). r ≢ s) rows
rows-differ [] s = λ i j d below within. absurd (omega arith)
rows-differ (row ∷ rows) s =
    AllPairs-cons (λ (r s : Row). r ≢ s) row rows
    (all-of (λ (other : Row). row ≢ other) rows (λ other there same.
    never-less row.key (ap (λ (r : Row). text_cmp row.key r.key) same ∙ less-than row.key rows other s.0 there)))
    (rows-differ rows s.1)

-- what differs from a first one, and what stands after it
first-differs : {X : Type 0} → (x : X) (xs : List X) → AllPairs (λ x y. x ≢ y) (x ∷ xs) → (y : X) → Contains xs y → x ≢ y
first-differs x xs differ y (k, inside, is) same = differ zero (suc k) y (omega arith) (omega arith) (same ∙ sym is)

rest-differs : {X : Type 0} → (x : X) (xs : List X) → AllPairs (λ x y. x ≢ y) (x ∷ xs) → AllPairs (λ x y. x ≢ y) xs
rest-differs x xs differ i j d below inside = differ (suc i) (suc j) d (omega arith) (omega arith)

-- without one of them they still differ
taken-differs : {X : Type 0} → (front back : List X) (x : X) → AllPairs (λ x y. x ≢ y) (front ++ x ∷ back) → AllPairs (λ x y. x ≢ y) (front ++ back) × ((y : X) → Contains (front ++ back) y → x ≢ y)
taken-differs [] back x differ = (rest-differs x back differ, first-differs x back differ)
taken-differs {X} (f ∷ front) back x differ =
    let (rest, apart) = taken-differs front back x (rest-differs f (front ++ x ∷ back) differ) in (
      AllPairs-cons (λ x y. x ≢ y) f (front ++ back) (all-of (λ y. f ≢ y) (front ++ back) (λ y there. first-differs f (front ++ x ∷ back) differ y (among y there))) rest,
      λ y there. elim (in-cons y f (front ++ back) there) [
        | inl is ↦ λ same. first-differs f (front ++ x ∷ back) differ x (Contains-append_right front (x ∷ back) x (in-here x back)) (is ∙ sym same)
        | inr more ↦ apart y more
      ],
    )
  where
    among : (y : X) → Contains (front ++ back) y → Contains (front ++ x ∷ back) y
    among y there = elim (Contains-append_cases front back y there) [
      | inl before ↦ Contains-append_left front (x ∷ back) y before
      | inr behind ↦ Contains-append_right front (x ∷ back) y (in-there y x back behind)
    ]

-- lists whose members differ, and are the same, are the same in another order
pub permutes : {X : Type 0} → (xs ys : List X) → AllPairs (λ x y. x ≢ y) xs → AllPairs (λ x y. x ≢ y) ys → ((x : X) → Contains xs x → Contains ys x) → ((x : X) → Contains ys x → Contains xs x) → IsPermutation xs ys
permutes [] [] dx dy one other = IsPermutation-refl []
permutes [] (y ∷ ys) dx dy one other = absurd (in-nothing y (other y (in-here y ys)))
permutes {X} (x ∷ xs) ys dx dy one other =
    let (front, back, e) = split-at x ys (one x (in-here x xs)) in
    let (differ, apart) = taken-differs front back x (subst (λ l. AllPairs (λ x y. x ≢ y) l) e dy) in
    let rest = permutes xs (front ++ back) (rest-differs x xs dx) differ (forth front back e) (λ y there. back_in front back e y there (apart y there)) in
    let whole = IsPermutation-trans _ _ _ (IsPermutation-cons x xs (front ++ back) rest) (IsPermutation-sym _ _ (IsPermutation-middle front x back)) in
    subst (λ l. IsPermutation (x ∷ xs) l) (sym e) whole
  where
    forth : (front back : List X) → ys ≡ front ++ x ∷ back → (y : X) → Contains xs y → Contains (front ++ back) y
    forth front back e y there =
        elim (Contains-append_cases front (x ∷ back) y (subst (λ l. Contains l y) e (one y (in-there y x xs there)))) [
          | inl before ↦ Contains-append_left front back y before
          | inr rest ↦ elim (in-cons y x back rest) [
            | inl is ↦ absurd (first-differs x xs dx y there is)
            | inr behind ↦ Contains-append_right front back y behind
          ]
        ]

    back_in : (front back : List X) → ys ≡ front ++ x ∷ back → (y : X) → Contains (front ++ back) y → x ≢ y → Contains xs y
    back_in front back e y there differ =
        let among : Contains (front ++ x ∷ back) y = elim (Contains-append_cases front back y there) [
          | inl before ↦ Contains-append_left front (x ∷ back) y before
          | inr behind ↦ Contains-append_right front (x ∷ back) y (in-there y x back behind)
        ] in
        elim (in-cons y x xs (other y (subst (λ l. Contains l y) (sym e) among))) [
          | inl is ↦ absurd (differ is)
          | inr more ↦ more
        ]
