-- What a reading that went well found.
use Rattle.std.proofs.Common.{◌≡◌, ◌∙◌, Bool, true, Option, Some, None, option_map, refl, sym, ap}
use Rattle.std.specs.Prelude.{option_and_then}
use Rattle.std.proofs.lemmas.Option.{cond_some}
use Rattle.ipam_block_text.specs.Reading.{if_passes}

pub and_then_some : {A B : Type 0} (f : A → Option B) (o : Option A) (y : B) → option_and_then f o ≡ Some y → (x : A) × (o ≡ Some x) × (f x ≡ Some y)
and_then_some f None y e = absurd cc
and_then_some f (Some x) y e = (x, refl, e)

pub some_same : {B : Type 0} (x y : B) → Some x ≡ Some y → x ≡ y
some_same x y e = cc

pub map_some : {A B : Type 0} (f : A → B) (o : Option A) (y : B) → option_map f o ≡ Some y → (x : A) × (o ≡ Some x) × (f x ≡ y)
map_some f None y e = absurd cc
map_some f (Some x) y e = (x, refl, some_same (f x) y e)

pub only_if_some : {A : Type 0} (test : A → Bool) (x y : A) → if_passes test x ≡ Some y → (x ≡ y) × (test y ≡ true)
only_if_some test x y e =
    let parts = cond_some (test x) x y e in
    (parts.1, sym (ap test parts.1) ∙ parts.0)

pub passed_some : {A : Type 0} (test : A → Bool) (o : Option A) (y : A) → option_and_then (if_passes test) o ≡ Some y → (o ≡ Some y) × (test y ≡ true)
passed_some test o y e =
    let first = and_then_some (if_passes test) o y e in
    let last = only_if_some test first.0 y first.2 in
    (first.1 ∙ ap Some last.0, last.1)
