-- What is ahead of an ordinal in a queue.
use Rattle.std.proofs.Common.{◌≡◌, ◌≢◌, ℕ, inl, inr, Bool, true, false, cond, List, [], ◌∷◌, ◌++◌, Some, refl, sym, ap, ◌∙◌, subst, eqb-true}
use Rattle.std.specs.Prelude.{Contains, not, ◌==◌}
use Rattle.std.specs.List.{filter, find}
use Rattle.std.proofs.lemmas.Bool.{eqb-false}
use Rattle.ipam_laws.proofs.Members.{in-cons, in-here, in-nothing, in-there}
use Rattle.ipam_laws.specs.Queues.{ahead_from, ahead_of}

-- what is ahead is queued
pub ahead-queued : (free : ℕ) (queue : List ℕ) (o : ℕ) → Contains (ahead_of free queue) o → Contains queue o
ahead-queued free [] o h = h
ahead-queued free (x ∷ xs) o h = by (x == free) h (ahead-queued free xs o)
  where
    by : (f : Bool) → Contains (ahead_from f x (ahead_of free xs)) o → (Contains (ahead_of free xs) o → Contains xs o) → Contains (x ∷ xs) o
    by true none rest = absurd (in-nothing o none)
    by false there rest = elim (in-cons o x (ahead_of free xs) there) [
      | inl is ↦ subst (λ z. Contains (x ∷ xs) z) is (in-here x xs)
      | inr more ↦ in-there o x xs (rest more)
    ]

-- what is queued and not first is queued among the rest
rest-queued : (free x : ℕ) (xs : List ℕ) → (x == free) ≡ false → Contains (x ∷ xs) free → Contains xs free
rest-queued free x xs differ there = elim (in-cons free x xs there) [
  | inl is ↦ absurd (eqb-false x free differ is)
  | inr more ↦ more
]

-- one is taken out of the queue: what is ahead then was ahead before
pub ahead-taken : (free gone : ℕ) (queue : List ℕ) (o : ℕ) → free ≢ gone → Contains (ahead_of free (filter (λ y. not (y == gone)) queue)) o → Contains (ahead_of free queue) o
ahead-taken free gone [] o differ h = h
ahead-taken free gone (x ∷ xs) o differ h = by (x == gone) refl (x == free) refl h (ahead-taken free gone xs o differ)
  where
    left : List ℕ
    left = filter (λ y. not (y == gone)) xs

    by : (g : Bool) → (x == gone) ≡ g → (f : Bool) → (x == free) ≡ f → Contains (ahead_of free (cond (not g) (x ∷ left) left)) o → (Contains (ahead_of free left) o → Contains (ahead_of free xs) o) → Contains (ahead_from f x (ahead_of free xs)) o
    by true g true f there rest = absurd (differ (sym (eqb-true x free f) ∙ eqb-true x gone g))
    by true g false f there rest = in-there o x (ahead_of free xs) (rest there)
    by false g true f there rest = absurd (in-nothing o (subst (λ (b : Bool). Contains (ahead_from b x (ahead_of free left)) o) f there))
    by false g false f there rest =
        elim (in-cons o x (ahead_of free left) (subst (λ (b : Bool). Contains (ahead_from b x (ahead_of free left)) o) f there)) [
          | inl is ↦ subst (λ z. Contains (x ∷ ahead_of free xs) z) is (in-here x (ahead_of free xs))
          | inr more ↦ in-there o x (ahead_of free xs) (rest more)
        ]

-- more come to the end of the queue: what is ahead stays
pub ahead-more : (free : ℕ) (queue more : List ℕ) (o : ℕ) → Contains queue free → Contains (ahead_of free (queue ++ more)) o → Contains (ahead_of free queue) o
ahead-more free [] more o queued h = absurd (in-nothing free queued)
ahead-more free (x ∷ xs) more o queued h = by (x == free) refl h (ahead-more free xs more o)
  where
    by : (f : Bool) → (x == free) ≡ f → Contains (ahead_from f x (ahead_of free (xs ++ more))) o → (Contains xs free → Contains (ahead_of free (xs ++ more)) o → Contains (ahead_of free xs) o) → Contains (ahead_from f x (ahead_of free xs)) o
    by true f there rest = there
    by false f there rest = elim (in-cons o x (ahead_of free (xs ++ more)) there) [
      | inl is ↦ subst (λ z. Contains (x ∷ ahead_of free xs) z) is (in-here x (ahead_of free xs))
      | inr further ↦ in-there o x (ahead_of free xs) (rest (rest-queued free x xs f queued) further)
    ]

-- the first that passes a test is ahead of each other one that passes it
pub found-ahead : (test : ℕ → Bool) (free found : ℕ) (queue : List ℕ) → Contains queue free → test free ≡ true → free ≢ found → find test queue ≡ Some found → Contains (ahead_of free queue) found
found-ahead test free found [] queued passes differ is = absurd (in-nothing free queued)
found-ahead test free found (x ∷ xs) queued passes differ is = by (x == free) refl (test x) refl is (λ more. found-ahead test free found xs more passes differ)
  where
    by : (f : Bool) → (x == free) ≡ f → (t : Bool) → test x ≡ t → cond t (Some x) (find test xs) ≡ Some found → (Contains xs free → find test xs ≡ Some found → Contains (ahead_of free xs) found) → Contains (ahead_from f x (ahead_of free xs)) found
    by true f true t e rest = let same : x ≡ found = cc e in absurd (differ (sym (eqb-true x free f) ∙ same))
    by true f false t e rest = let fails : test free ≡ false = ap test (sym (eqb-true x free f)) ∙ t in absurd (cc (passes, fails))
    by false f true t e rest = let same : x ≡ found = cc e in subst (λ z. Contains (x ∷ ahead_of free xs) z) same (in-here x (ahead_of free xs))
    by false f false t e rest = in-there found x (ahead_of free xs) (rest (rest-queued free x xs f queued) e)
