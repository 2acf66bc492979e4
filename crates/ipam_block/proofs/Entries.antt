-- Entries whose keys ascend, with one put in or taken out.
use Rattle.std.proofs.Common.{◌≡◌, ℕ, zero, suc, ◌<◌, ◌≤◌, Bool, true, false, cond, List, [], ◌∷◌, length, get_or, set, Some, None, ap, sym, ◌∙◌, arith, refl, subst}
use Rattle.std.specs.declared.cmp.Ordering.{Ordering}
use Rattle.std.specs.declared.cmp.Ordering.TheVariants.{Less, Equal, Greater}
use Rattle.std.specs.Ordering.{is_eq, match_ordering, ordering_reverse}
use Rattle.std.specs.Cmp.{IsTotalOrder, Equal-is, alike_right, tied_itself}
use Rattle.std.specs.List.{All, AllByRecursion, insert, remove}
use Rattle.std.specs.List.Sorted.{IsStrictlySortedBy}
use Rattle.std.specs.Map.{keys_of, lookup, remove_entry}
use Rattle.std.specs.BTreeMap.{is_at, insert_entry}
use Rattle.std.proofs.lemmas.List.Elements.{All-cons, All-head, All-tail}
use Rattle.std.proofs.lemmas.Map.Keys.{sorted_head, sorted_tail}
use Rattle.std.proofs.lemmas.Map.Lookups.{CmpEqualImpliesEq}

-- two choices that give one value, and two that may change places
one_choice : {A : Type 0} (b c : Bool) (x y z : A) → b ≡ c → cond c x y ≡ cond b x (cond c z y)
one_choice true true x y z e = refl
one_choice false false x y z e = refl
one_choice true false x y z e = cc e
one_choice false true x y z e = cc e

either_order : {A : Type 0} (b c : Bool) (x y z : A) → (b ≡ true → c ≡ true → ⊥) → cond c y (cond b x z) ≡ cond b x (cond c y z)
either_order true true x y z apart = absurd (apart refl refl)
either_order true false x y z apart = refl
either_order false true x y z apart = refl
either_order false false x y z apart = refl

module _ {K X : Type 0} where
  -- what holds of each key holds of the key at a place
  key_at : (P : K → Type 0) (es : List (K × X)) (i : ℕ) (d : K × X) → AllByRecursion P (keys_of es) → i < length es → P (get_or es i d).0
  key_at P [] i d a l = absurd (omega arith)
  key_at P (e ∷ es) zero d a l = a.0
  key_at P (e ∷ es) (suc i) d a l = key_at P es i d a.1 (omega arith)

  pub key_below : (R : K → K → Ordering) (es : List (K × X)) (i j : ℕ) (d : K × X) → IsStrictlySortedBy R (keys_of es) → i < j → j < length es → R (get_or es i d).0 (get_or es j d).0 ≡ Less
  key_below R [] i j d s before l = absurd (omega arith)
  key_below R (e ∷ es) i zero d s before l = absurd (omega arith)
  key_below R (e ∷ es) zero (suc j) d s before l =
      key_at (λ y. R e.0 y ≡ Less) es j d (sorted_head R _ _ s) (omega arith)
  key_below R (e ∷ es) (suc i) (suc j) d s before l =
      key_below R es i j d (sorted_tail R _ _ s) (omega arith) (omega arith)

  -- ---- without an entry
  pub All-remove_entry : (P : K × X → Type 0) (test : K → Bool) (es : List (K × X)) → All P es → All P (remove_entry test es)
  All-remove_entry P test [] all = all
  All-remove_entry P test (e ∷ es) all =
      let rest = All-remove_entry P test es (All-tail P e es all) in
      elim (test e.0) as (λ b. All P (cond b es (e ∷ remove_entry test es))) [
        | true ↦ All-tail P e es all
        | false ↦ All-cons P e _ (All-head P e es all) rest
      ]

  keys-remove_entry : (P : K → Type 0) (test : K → Bool) (es : List (K × X)) → AllByRecursion P (keys_of es) → AllByRecursion P (keys_of (remove_entry test es))
  keys-remove_entry P test [] all = all
  keys-remove_entry P test (e ∷ es) all =
      elim (test e.0) as (λ b. AllByRecursion P (keys_of (cond b es (e ∷ remove_entry test es)))) [
        | true ↦ all.1
        | false ↦ (all.0, keys-remove_entry P test es all.1)
      ]

  pub sorted-remove_entry : (R : K → K → Ordering) (test : K → Bool) (es : List (K × X)) → IsStrictlySortedBy R (keys_of es) → IsStrictlySortedBy R (keys_of (remove_entry test es))
  unfolding IsStrictlySortedBy
  sorted-remove_entry R test [] s = s
  sorted-remove_entry R test (e ∷ es) s =
      elim (test e.0) as (λ b. IsStrictlySortedBy R (keys_of (cond b es (e ∷ remove_entry test es)))) [
        | true ↦ s.1
        | false ↦ (keys-remove_entry (λ y. R e.0 y ≡ Less) test es s.0, sorted-remove_entry R test es s.1)
      ]

  module _ {R : K → K → Ordering} (o : IsTotalOrder R) (k : K) (v : X) where
    -- ---- with an entry
    step : (e : K × X) (es : List (K × X)) (r : Ordering) → R k e.0 ≡ r → insert_entry R (e ∷ es) k v ≡ match_ordering r ((k, v) ∷ e ∷ es) ((e.0, v) ∷ es) (e ∷ insert_entry R es k v)
    step e es r h = ap (λ s. match_ordering s ((k, v) ∷ e ∷ es) ((e.0, v) ∷ es) (e ∷ insert_entry R es k v)) h

    apart : (q : K) (e : K × X) → R k e.0 ≡ Greater → is_eq (R q k) ≡ true → is_eq (R q e.0) ≡ true → ⊥
    apart q e h a b =
        let same : R q e.0 ≡ R k e.0 = o.congr q k e.0 ((Equal-is (R q k)).0 a) in
        let equal : R q e.0 ≡ Equal = (Equal-is (R q e.0)).0 b in
        cc (h, same, equal)

    abbrev FoundAfter : K → List (K × X) → Type 0
    FoundAfter q es = lookup (is_at (R q)) (insert_entry R es k v) ≡ cond (is_at (R q) k) (Some v) (lookup (is_at (R q)) es)

    found : (q : K) (e : K × X) (es : List (K × X)) (r : Ordering) → R k e.0 ≡ r → FoundAfter q es → FoundAfter q (e ∷ es)
    found q e es Less h rest = ap (lookup (is_at (R q))) (step e es Less h)
    found q e es Equal h rest =
        ap (lookup (is_at (R q))) (step e es Equal h)
        ∙ one_choice (is_at (R q) k) (is_at (R q) e.0) _ _ _ (ap is_eq (alike_right o k e.0 q h))
    found q e es Greater h rest =
        ap (lookup (is_at (R q))) (step e es Greater h)
        ∙ ap (cond (is_at (R q) e.0) (Some e.1)) rest
        ∙ either_order (is_at (R q) k) (is_at (R q) e.0) _ _ _ (apart q e h)

    pub lookup-insert_entry : (q : K) (es : List (K × X)) → lookup (is_at (R q)) (insert_entry R es k v) ≡ cond (is_at (R q) k) (Some v) (lookup (is_at (R q)) es)
    lookup-insert_entry q [] = refl
    lookup-insert_entry q (e ∷ es) = found q e es (R k e.0) refl (lookup-insert_entry q es)

    keys-insert_entry : (P : K → Type 0) (es : List (K × X)) → P k → AllByRecursion P (keys_of es) → AllByRecursion P (keys_of (insert_entry R es k v))
    keys-insert_entry P [] p all = (p, tt)
    keys-insert_entry P (e ∷ es) p all =
        elim (R k e.0) as (λ r. AllByRecursion P (keys_of (match_ordering r ((k, v) ∷ e ∷ es) ((e.0, v) ∷ es) (e ∷ insert_entry R es k v)))) [
          | Less ↦ (p, all)
          | Equal ↦ all
          | Greater ↦ (all.0, keys-insert_entry P es p all.1)
        ]

    later : (x y : K) → R x y ≡ Less → (es : List (K × X)) → AllByRecursion (λ z. R y z ≡ Less) (keys_of es) → AllByRecursion (λ z. R x z ≡ Less) (keys_of es)
    later x y h [] all = tt
    later x y h (e ∷ es) all = (o.trans x y e.0 h all.0, later x y h es all.1)

    placed : (e : K × X) (es : List (K × X)) (r : Ordering) → R k e.0 ≡ r → IsStrictlySortedBy R (keys_of (e ∷ es)) → IsStrictlySortedBy R (keys_of (insert_entry R es k v)) → IsStrictlySortedBy R (keys_of (match_ordering r ((k, v) ∷ e ∷ es) ((e.0, v) ∷ es) (e ∷ insert_entry R es k v)))
    unfolding IsStrictlySortedBy
    placed e es Less h s rest = ((h, later k e.0 h es s.0), s)
    placed e es Equal h s rest = s
    placed e es Greater h s rest =
        let below : R e.0 k ≡ Less = o.antisymm e.0 k ∙ ap ordering_reverse h in
        (keys-insert_entry (λ y. R e.0 y ≡ Less) es below s.0, rest)

    pub sorted-insert_entry : (es : List (K × X)) → IsStrictlySortedBy R (keys_of es) → IsStrictlySortedBy R (keys_of (insert_entry R es k v))
    unfolding IsStrictlySortedBy
    sorted-insert_entry [] s = (tt, tt)
    sorted-insert_entry (e ∷ es) s = placed e es (R k e.0) refl s (sorted-insert_entry es s.1)

    all_placed : CmpEqualImpliesEq R → (P : K × X → Type 0) (e : K × X) (es : List (K × X)) (r : Ordering) → R k e.0 ≡ r → P (k, v) → All P (e ∷ es) → All P (insert_entry R es k v) → All P (match_ordering r ((k, v) ∷ e ∷ es) ((e.0, v) ∷ es) (e ∷ insert_entry R es k v))
    all_placed exact P e es Less h p all rest = All-cons P (k, v) (e ∷ es) p all
    all_placed exact P e es Equal h p all rest =
        let here : P (e.0, v) = subst (λ y. P (y, v)) (exact k e.0 h) p in
        All-cons P (e.0, v) es here (All-tail P e es all)
    all_placed exact P e es Greater h p all rest = All-cons P e _ (All-head P e es all) rest

    pub All-insert_entry : CmpEqualImpliesEq R → (P : K × X → Type 0) (es : List (K × X)) → P (k, v) → All P es → All P (insert_entry R es k v)
    All-insert_entry exact P [] p all = All-cons P (k, v) [] p all
    All-insert_entry exact P (e ∷ es) p all =
        all_placed exact P e es (R k e.0) refl p all (All-insert_entry exact P es p (All-tail P e es all))

    -- ---- by places
    above_head : (e : K × X) (es : List (K × X)) (i : ℕ) → IsStrictlySortedBy R (keys_of (e ∷ es)) → i < length es → ((d : K × X) → (get_or es i d).0 ≡ k) → R k e.0 ≡ Greater
    above_head e es i s l same =
        let below : R e.0 (get_or es i e).0 ≡ Less = key_at (λ y. R e.0 y ≡ Less) es i e (sorted_head R _ _ s) l in
        o.antisymm k e.0 ∙ ap (λ y. ordering_reverse (R e.0 y)) (sym (same e)) ∙ ap ordering_reverse below

    at_head : (e : K × X) → e.0 ≡ k → R k e.0 ≡ Equal
    at_head e same = ap (R k) same ∙ tied_itself o k

    pub set-insert_entry : (es : List (K × X)) (i : ℕ) → IsStrictlySortedBy R (keys_of es) → i < length es → ((d : K × X) → (get_or es i d).0 ≡ k) → set es i (k, v) ≡ insert_entry R es k v
    set-insert_entry [] i s l same = absurd (omega arith)
    set-insert_entry (e ∷ es) zero s l same =
        ap (λ y. (y, v) ∷ es) (sym (same e)) ∙ sym (step e es Equal (at_head e (same e)))
    set-insert_entry (e ∷ es) (suc i) s l same =
        ap (λ x. e ∷ x) (set-insert_entry es i (sorted_tail R _ _ s) (omega arith) same)
        ∙ sym (step e es Greater (above_head e es i s (omega arith) same))

    pub insert-insert_entry : (es : List (K × X)) (i : ℕ) → i ≤ length es → ((j : ℕ) (d : K × X) → j < i → R k (get_or es j d).0 ≡ Greater) → ((j : ℕ) (d : K × X) → i ≤ j → j < length es → R k (get_or es j d).0 ≡ Less) → insert es i (k, v) ≡ insert_entry R es k v
    insert-insert_entry [] zero l before behind = refl
    insert-insert_entry [] (suc i) l before behind = absurd (omega arith)
    insert-insert_entry (e ∷ es) zero l before behind =
        sym (step e es Less (behind 0 e (omega arith) (omega arith)))
    insert-insert_entry (e ∷ es) (suc i) l before behind =
        let rest = insert-insert_entry es i (omega arith) (λ j d h. before (suc j) d (omega arith)) (λ j d h m. behind (suc j) d (omega arith) (omega arith)) in
        ap (λ x. e ∷ x) rest ∙ sym (step e es Greater (before 0 e (omega arith)))

    pub remove-remove_entry : (es : List (K × X)) (i : ℕ) → IsStrictlySortedBy R (keys_of es) → i < length es → ((d : K × X) → (get_or es i d).0 ≡ k) → remove es i ≡ remove_entry (is_at (R k)) es
    remove-remove_entry [] i s l same = absurd (omega arith)
    remove-remove_entry (e ∷ es) zero s l same =
        sym (ap (λ r. cond (is_eq r) es (e ∷ remove_entry (is_at (R k)) es)) (at_head e (same e)))
    remove-remove_entry (e ∷ es) (suc i) s l same =
        ap (λ x. e ∷ x) (remove-remove_entry es i (sorted_tail R _ _ s) (omega arith) same)
        ∙ sym (ap (λ r. cond (is_eq r) es (e ∷ remove_entry (is_at (R k)) es)) (above_head e es i s (omega arith) same))

    -- no key is equal where a gap is
    pub lookup-gap : (es : List (K × X)) (i : ℕ) → ((j : ℕ) (d : K × X) → j < i → R k (get_or es j d).0 ≡ Greater) → ((j : ℕ) (d : K × X) → i ≤ j → j < length es → R k (get_or es j d).0 ≡ Less) → lookup (is_at (R k)) es ≡ None
    lookup-gap [] i before behind = refl
    lookup-gap (e ∷ es) zero before behind =
        ap (λ r. cond (is_eq r) (Some e.1) (lookup (is_at (R k)) es)) (behind 0 e (omega arith) (omega arith))
        ∙ lookup-gap es zero (λ j d h. absurd (omega arith)) (λ j d h m. behind (suc j) d (omega arith) (omega arith))
    lookup-gap (e ∷ es) (suc i) before behind =
        ap (λ r. cond (is_eq r) (Some e.1) (lookup (is_at (R k)) es)) (before 0 e (omega arith))
        ∙ lookup-gap es i (λ j d h. before (suc j) d (omega arith)) (λ j d h m. behind (suc j) d (omega arith) (omega arith))

    pub lookup-place : (es : List (K × X)) (i : ℕ) (d : K × X) → IsStrictlySortedBy R (keys_of es) → i < length es → ((d : K × X) → (get_or es i d).0 ≡ k) → lookup (is_at (R k)) es ≡ Some (get_or es i d).1
    lookup-place [] i d s l same = absurd (omega arith)
    lookup-place (e ∷ es) zero d s l same =
        ap (λ r. cond (is_eq r) (Some e.1) (lookup (is_at (R k)) es)) (at_head e (same e))
    lookup-place (e ∷ es) (suc i) d s l same =
        ap (λ r. cond (is_eq r) (Some e.1) (lookup (is_at (R k)) es)) (above_head e es i s (omega arith) same)
        ∙ lookup-place es i d (sorted_tail R _ _ s) (omega arith) same
