-- What a step of a request leads to.
use Rattle.std.proofs.Common.{◌≡◌, Option, Some, None, Result, Ok, Err, OnErr, refl}
use Rattle.std.specs.Prelude.{IfOk, IfNone, IfSome}
use Rattle.ipam_model.specs.declared.answer.Answer.{Answer}

-- what is so where there is no answer yet
pub told-none : {E P : Type 0} (Q : Option Answer → Type 0) (r : Result (Option Answer) E) → IfOk r Q → (Q None → P) → IfOk r (λ told. IfNone told P)
told-none Q (Ok None) step so = so step
told-none Q (Ok (Some told)) step so = tt
told-none Q (Err e) step so = tt

-- and of an answer
pub told-some : {E : Type 0} (Q : Option Answer → Type 0) (P : Answer → Type 0) (r : Result (Option Answer) E) → IfOk r Q → ((told : Answer) → Q (Some told) → P told) → IfOk r (λ told. IfSome told P)
told-some Q P (Ok None) step so = tt
told-some Q P (Ok (Some told)) step so = so told step
told-some Q P (Err e) step so = tt

-- what is so where two facts are so of an error
pub err-both : {T E : Type 0} {A B P : Type 0} (r : Result T E) → OnErr r A → OnErr r B → (A → B → P) → OnErr r P
err-both (Ok value) a b so = tt
err-both (Err e) a b so = so a b

pub err-pair : {T E : Type 0} (A B : Type 0) (r : Result T E) → OnErr r A → OnErr r B → OnErr r (A × B)
err-pair A B (Ok value) a b = tt
err-pair A B (Err e) a b = (a, b)

pub no-answer : (o : Option Answer) → ((told : Answer) → o ≡ Some told → ⊥) → o ≡ None
no-answer None not = refl
no-answer (Some told) not = absurd (not told refl)
