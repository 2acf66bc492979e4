-- Two entries that are put in at their places may be put in in either order.
use Rattle.std.proofs.Common.{◌≡◌, ◌≢◌, List, [], ◌∷◌, ◌++◌, None, refl, ap, ◌∙◌}
use Rattle.std.specs.declared.cmp.Ordering.{Ordering}
use Rattle.std.specs.declared.cmp.Ordering.TheVariants.{Less, Equal, Greater}
use Rattle.std.specs.Ordering.{match_ordering, ordering_reverse}
use Rattle.std.specs.Cmp.{IsTotalOrder}
use Rattle.std.specs.List.{AllByRecursion}
use Rattle.std.specs.List.Sorted.{IsStrictlySortedBy}
use Rattle.std.specs.Map.{keys_of, lookup}
use Rattle.std.specs.BTreeMap.{is_at, insert_entry}

module _ {K X : Type 0} {R : K → K → Ordering} (o : IsTotalOrder R) where
  module _ (r s : K) (n m : X) (apart : R r s ≢ Equal) where
    abbrev Either : List (K × X) → Type 0
    Either es = insert_entry R (insert_entry R es r n) s m ≡ insert_entry R (insert_entry R es s m) r n

    front_at : (a b c : List (K × X)) (x : Ordering) → x ≢ Equal → match_ordering (ordering_reverse x) a b c ≡ match_ordering x c b a
    front_at a b c Less h = refl
    front_at a b c Equal h = absurd (h refl)
    front_at a b c Greater h = refl

    front : (es : List (K × X)) → match_ordering (R s r) ((s, m) ∷ (r, n) ∷ es) ((r, m) ∷ es) ((r, n) ∷ (s, m) ∷ es) ≡ match_ordering (R r s) ((r, n) ∷ (s, m) ∷ es) ((s, n) ∷ es) ((s, m) ∷ (r, n) ∷ es)
    front es = go (R r s) refl
      where
        go : (x : Ordering) → R r s ≡ x → match_ordering (R s r) ((s, m) ∷ (r, n) ∷ es) ((r, m) ∷ es) ((r, n) ∷ (s, m) ∷ es) ≡ match_ordering (R r s) ((r, n) ∷ (s, m) ∷ es) ((s, n) ∷ es) ((s, m) ∷ (r, n) ∷ es)
        go Less e = let back : R s r ≡ Greater = o.antisymm s r ∙ ap ordering_reverse e in rw (e, back) refl
        go Equal e = absurd (apart e)
        go Greater e = let back : R s r ≡ Less = o.antisymm s r ∙ ap ordering_reverse e in rw (e, back) refl

    either_at : (e : K × X) (es : List (K × X)) (a b : Ordering) → R r e.0 ≡ a → R s e.0 ≡ b → Either es → Either (e ∷ es)
    either_at e es Less Less p q rest = rw (p, q, p) (front (e ∷ es))
    either_at e es Less Equal p q rest =
        let above : R s r ≡ Greater = o.congr s e.0 r q ∙ o.antisymm e.0 r ∙ ap ordering_reverse p in
        rw (p, q, above, p) refl
    either_at e es Less Greater p q rest =
        let below : R r s ≡ Less = o.trans r e.0 s p (o.antisymm e.0 s ∙ ap ordering_reverse q) in
        let above : R s r ≡ Greater = o.antisymm s r ∙ ap ordering_reverse below in
        rw (p, q, above, p) refl
    either_at e es Equal Less p q rest =
        let above : R r s ≡ Greater = o.congr r e.0 s p ∙ o.antisymm e.0 s ∙ ap ordering_reverse q in
        rw (p, q, above, p) refl
    either_at e es Equal Equal p q rest = absurd (apart (o.congr r e.0 s p ∙ o.antisymm e.0 s ∙ ap ordering_reverse q))
    either_at e es Equal Greater p q rest = rw (p, q, p) refl
    either_at e es Greater Less p q rest =
        let below : R s r ≡ Less = o.trans s e.0 r q (o.antisymm e.0 r ∙ ap ordering_reverse p) in
        let above : R r s ≡ Greater = o.antisymm r s ∙ ap ordering_reverse below in
        rw (p, q, above, p) refl
    either_at e es Greater Equal p q rest = rw (p, q, p) refl
    either_at e es Greater Greater p q rest = rw (p, q, p) (ap (λ l. e ∷ l) rest)

    pub insert_entry-either : (es : List (K × X)) → Either es
    insert_entry-either [] = front []
    insert_entry-either (e ∷ es) = either_at e es (R r e.0) (R s e.0) refl refl (insert_entry-either es)

  -- ---- a key above all others

  last_above : (x k : K) (v : X) (es fs : List (K × X)) → AllByRecursion (λ y. R x y ≡ Less) (keys_of (es ++ (k, v) ∷ fs)) → R x k ≡ Less
  last_above x k v [] fs h = h.0
  last_above x k v (e ∷ es) fs h = last_above x k v es fs h.1

  -- in a sorted list, what stands before an entry is below it
  pub below_entry : (k : K) (v : X) (es fs : List (K × X)) → IsStrictlySortedBy R (keys_of (es ++ (k, v) ∷ fs)) → AllByRecursion (λ y. R y k ≡ Less) (keys_of es)
  unfolding IsStrictlySortedBy
  below_entry k v [] fs h = tt
  below_entry k v (e ∷ es) fs h = (last_above e.0 k v es fs h.0, below_entry k v es fs h.1)

  above : (k : K) (e : K × X) → R e.0 k ≡ Less → R k e.0 ≡ Greater
  above k e h = o.antisymm k e.0 ∙ ap ordering_reverse h

  pub insert_entry-last : (k : K) (v : X) (es : List (K × X)) → AllByRecursion (λ y. R y k ≡ Less) (keys_of es) → insert_entry R es k v ≡ es ++ (k, v) ∷ []
  insert_entry-last k v [] h = refl
  insert_entry-last k v (e ∷ es) h = rw (above k e h.0) (ap (λ l. e ∷ l) (insert_entry-last k v es h.1))

  pub lookup-last : (k : K) (es : List (K × X)) → AllByRecursion (λ y. R y k ≡ Less) (keys_of es) → lookup (is_at (R k)) es ≡ None
  lookup-last k [] h = refl
  lookup-last k (e ∷ es) h = rw (above k e h.0) (lookup-last k es h.1)
