-- Members of a list.
use Rattle.std.proofs.Common.{◌≡◌, ℕ, zero, suc, ◌⊎◌, inl, inr, Bool, true, false, cond, List, [], ◌∷◌, map, Some, refl, sym, ap, ◌∙◌, subst, arith}
use Rattle.std.specs.Prelude.{All, Contains, slice_get}
use Rattle.std.proofs.lemmas.List.Elements.{All-cons}
use Rattle.std.specs.List.{filter}
pub use Rattle.ipam_block.proofs.Members.{in-cons, in-find, in-here, in-nothing, in-there}

pub in-map : {X Y : Type 0} → (f : X → Y) (x : X) (xs : List X) → Contains xs x → Contains (map f xs) (f x)
in-map f x [] h = absurd (in-nothing x h)
in-map f x (y ∷ ys) h = elim (in-cons x y ys h) [
  | inl is ↦ subst (λ z. Contains (f y ∷ map f ys) (f z)) is (in-here (f y) (map f ys))
  | inr rest ↦ in-there (f x) (f y) (map f ys) (in-map f x ys rest)
]

pub out-map : {X Y : Type 0} → (f : X → Y) (z : Y) (xs : List X) → Contains (map f xs) z → (x : X) × Contains xs x × (f x ≡ z)
out-map f z [] h = absurd (in-nothing z h)
out-map f z (y ∷ ys) h = elim (in-cons z (f y) (map f ys) h) [
  | inl is ↦ (y, in-here y ys, is)
  | inr rest ↦ let (x, there, e) = out-map f z ys rest in (x, in-there x y ys there, e)
]

-- what stands at a place is a member
pub in-place : {X : Type 0} → (xs : List X) (k : ℕ) (x : X) → slice_get xs k ≡ Some x → Contains xs x
in-place [] k x e = absurd (cc e)
in-place (y ∷ ys) zero x e = let same : y ≡ x = cc e in subst (λ z. Contains (y ∷ ys) z) same (in-here y ys)
in-place (y ∷ ys) (suc k) x e = in-there x y ys (in-place ys k x e)

-- what holds of each member holds of all
pub all-of : {X : Type 0} (P : X → Type 0) (xs : List X) → ((x : X) → Contains xs x → P x) → All P xs
all-of P [] h = λ k d within. absurd (omega arith)
all-of P (x ∷ xs) h = All-cons P x xs (h x (in-here x xs)) (all-of P xs (λ y there. h y (in-there y x xs there)))

-- the members that pass a test
pub in-filter : {X : Type 0} → (test : X → Bool) (x : X) (xs : List X) → Contains (filter test xs) x → Contains xs x × (test x ≡ true)
in-filter test x [] h = absurd (in-nothing x h)
in-filter test x (y ∷ ys) h = by (test y) refl h (in-filter test x ys)
  where
    by : (b : Bool) → test y ≡ b → Contains (cond b (y ∷ filter test ys) (filter test ys)) x → (Contains (filter test ys) x → Contains ys x × (test x ≡ true)) → Contains (y ∷ ys) x × (test x ≡ true)
    by true e there rest = elim (in-cons x y (filter test ys) there) [
      | inl is ↦ (subst (λ z. Contains (y ∷ ys) z) is (in-here y ys), ap test (sym is) ∙ e)
      | inr more ↦ let (among, passes) = rest more in (in-there x y ys among, passes)
    ]
    by false e there rest = let (among, passes) = rest there in (in-there x y ys among, passes)

pub filter-in : {X : Type 0} → (test : X → Bool) (x : X) (xs : List X) → Contains xs x → test x ≡ true → Contains (filter test xs) x
filter-in test x [] h e = absurd (in-nothing x h)
filter-in test x (y ∷ ys) h e = by (test y) refl (in-cons x y ys h) (filter-in test x ys)
  where
    by : (b : Bool) → test y ≡ b → (y ≡ x) ⊎ Contains ys x → (Contains ys x → test x ≡ true → Contains (filter test ys) x) → Contains (cond b (y ∷ filter test ys) (filter test ys)) x
    by true f (inl is) rest = subst (λ z. Contains (y ∷ filter test ys) z) is (in-here y (filter test ys))
    by true f (inr there) rest = in-there x y (filter test ys) (rest there e)
    by false f (inl is) rest = let g : test x ≡ false = ap test (sym is) ∙ f in absurd (cc (e, g))
    by false f (inr there) rest = rest there e
