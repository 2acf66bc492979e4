-- A part that begins again where it loses a race.
use Rattle.std.proofs.Common.{◌≡◌, refl, ap, ℕ, zero, suc}
use Rattle.ipam_model.specs.declared.part.Left.{Left}
use Rattle.ipam_model.specs.Step.{Part, StopAnswers, as_word, left_of, tries, with_retries}
use Rattle.ipam_parts.specs.Tries.{again_of, next_try, settled_try, less_a_race}

tries_once : {A : Type 0} (try : Part A → Left → Part A) (races claims : ℕ)
    → tries try races claims ≡ try (again_of try (left_of races claims)) (left_of races claims)
unfolding tries
tries_once try zero claims = refl
tries_once try (suc races) claims = refl

-- what is left of it before its next try
pub retried_once : {A : Type 0} (try : Part A → Left → Part A) (left : Left)
    → with_retries try left ≡ try (again_of try left) left
retried_once try left = tries_once try left.races left.claims

lost_at : {A : Type 0} (answers : StopAnswers A) (try : Part A → Left → Part A) (races claims : ℕ)
    → as_word answers (again_of try (left_of races claims))
    ≡ settled_try answers try (left_of races claims) (less_a_race (left_of races claims))
lost_at answers try zero claims = refl
lost_at answers try (suc races) claims = ap (as_word answers) (retried_once try (left_of races claims))

-- what is left of a request that is one part, where it lost a race
pub lost_goes : {A : Type 0} (answers : StopAnswers A) (try : Part A → Left → Part A) (left : Left)
    → as_word answers (again_of try left) ≡ settled_try answers try left (less_a_race left)
lost_goes answers try left = lost_at answers try left.races left.claims

again_at : {A : Type 0} (try : Part A → Left → Part A) (races claims : ℕ)
    → again_of try (left_of races claims) ≡ next_try try (left_of races claims) (less_a_race (left_of races claims))
again_at try zero claims = refl
again_at try (suc races) claims = retried_once try (left_of races claims)

-- what is left of a part that lost a race
pub again_goes : {A : Type 0} (try : Part A → Left → Part A) (left : Left)
    → again_of try left ≡ next_try try left (less_a_race left)
again_goes try left = again_at try left.races left.claims
