-- What it is to be a member of a list, by its first element, and by what is found.
use Rattle.std.proofs.Common.{◌≡◌, zero, suc, ◌⊎◌, inl, inr, Bool, true, false, cond, List, [], ◌∷◌, Some, refl, sym, ap, ◌∙◌, subst, arith}
use Rattle.std.specs.Prelude.{Contains}
use Rattle.std.specs.List.{find}

pub in-cons : {X : Type 0} → (x y : X) (ys : List X) → Contains (y ∷ ys) x → (y ≡ x) ⊎ Contains ys x
in-cons x y ys (zero, below, e) = inl e
in-cons x y ys (suc k, below, e) = inr (k, omega arith, e)

pub in-here : {X : Type 0} → (x : X) (xs : List X) → Contains (x ∷ xs) x
in-here x xs = (zero, omega arith, refl)

pub in-there : {X : Type 0} → (x y : X) (ys : List X) → Contains ys x → Contains (y ∷ ys) x
in-there x y ys (k, below, e) = (suc k, omega arith, e)

pub in-nothing : {X : Type 0} → (x : X) → Contains [] x → ⊥
in-nothing x (k, below, e) = absurd (omega arith)

-- what is found is a member that passes the test
pub in-find : {X : Type 0} → (test : X → Bool) (x : X) (xs : List X) → find test xs ≡ Some x → Contains xs x × (test x ≡ true)
in-find test x [] e = absurd (cc e)
in-find {X} test x (y ∷ ys) e = by (test y) refl e (in-find test x ys)
  where
    by : (b : Bool) → test y ≡ b → cond b (Some y) (find test ys) ≡ Some x → (find test ys ≡ Some x → Contains ys x × (test x ≡ true)) → Contains (y ∷ ys) x × (test x ≡ true)
    by true is f rest = let same : y ≡ x = cc f in (subst (λ z. Contains (y ∷ ys) z) same (in-here y ys), ap test (sym same) ∙ is)
    by false is f rest = let (there, passes) = rest f in (in-there x y ys there, passes)
