-- What a condition has told, once its value is known.
use Rattle.std.proofs.Common.{◌≡◌, Bool, true, false, ◌⊎◌, ◌&&◌, ◌||◌, not, inl, inr, Option, Some, None, option_map, option_and_then, if◌then◌else◌, refl}

pub if_cases : {A : Type 0} (b : Bool) (x y r : A) → (if b then x else y) ≡ r → ((b ≡ true) × (x ≡ r)) ⊎ ((b ≡ false) × (y ≡ r))
if_cases true x y r e = inl (refl, e)
if_cases false x y r e = inr (refl, e)

pub if_some : {A : Type 0} (b : Bool) (x r : A) → (if b then Some x else None) ≡ Some r → (b ≡ true) × (x ≡ r)
if_some true x r e = (refl, cc)
if_some false x r e = absurd (cc)

pub if_none : {A : Type 0} (b : Bool) (x : A) → (if b then Some x else None) ≡ None → b ≡ false
if_none true x e = absurd (cc)
if_none false x e = refl

pub and_true : (a b : Bool) → (a && b) ≡ true → (a ≡ true) × (b ≡ true)
and_true true b e = (refl, e)
and_true false b e = absurd (cc)

pub some_same : {A : Type 0} (x y : A) → Some x ≡ Some y → x ≡ y
some_same x y e = cc

pub none_is_not_some : {A : Type 0} (x : A) → ◌≡◌ {A = Option A} None (Some x) → ⊥
none_is_not_some x e = cc

pub and_both : (a b : Bool) → a ≡ true → b ≡ true → (a && b) ≡ true
and_both true b e f = f
and_both false b e f = absurd (cc)

pub or_true : (a b : Bool) → (a || b) ≡ true → (a ≡ true) ⊎ (b ≡ true)
or_true true b e = inl refl
or_true false b e = inr e

pub not_false : (a : Bool) → not a ≡ false → a ≡ true
not_false true e = refl
not_false false e = absurd (cc)

pub and_then_some : {A B : Type 0} (k : A → Option B) (o : Option A) (b : B) → option_and_then k o ≡ Some b → (a : A) × (o ≡ Some a) × (k a ≡ Some b)
and_then_some k None b e = absurd (cc)
and_then_some k (Some a) b e = (a, refl, e)

pub map_some : {A B : Type 0} (f : A → B) (o : Option A) (b : B) → option_map f o ≡ Some b → (a : A) × (o ≡ Some a) × (f a ≡ b)
map_some f None b e = absurd (cc)
map_some f (Some a) b e = (a, refl, cc)

pub if_true : {A : Type 0} (b : Bool) (x y : A) → b ≡ true → (if b then x else y) ≡ x
if_true true x y e = refl
if_true false x y e = absurd (cc)
