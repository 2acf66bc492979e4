-- What a turn answers of what its deed did.
use Rattle.std.proofs.Common.{◌≡◌, ◌↔◌, ℕ, ◌<◌, List, [], ◌∷◌, Option, Some, None, Result, Ok, Err, IsNone, IfSome, refl, sym, subst, arith}
use Rattle.ipam_model.specs.declared.entry.Entry.{Entry}
use Rattle.ipam_shared.specs.declared.faults.SharedFault.{SharedFault}
use Rattle.ipam_shared.specs.declared.faults.SharedFault.TheVariants.{Inner}
use Rattle.ipam_shared.specs.Deeds.{told_by}
use Rattle.ipam_shared.specs.Turning.{UnlessSpent, answer_of}

-- a refusal of the deed is one of the turn, where there was a turn
module _ {T E : Type 0} where
  pub refusal : (answer : Option (Result T E)) (fault : E) (left : ℕ) (P : Type 0) → (IsNone answer ↔ (left ≡ 0)) → IfSome answer (λ given. (0 < left) × ((given ≡ Err fault) ↔ P))
      → (answer_of answer ≡ Err (Inner fault)) ↔ (0 < left × P)
  refusal None fault left P spent given = ((λ e. cc), λ h. let none = spent.0 refl in let some = h.0 in absurd (omega arith))
  refusal (Some (Ok told)) fault left P spent given = ((λ e. cc), λ h. let e = given.1.1 h.1 in cc)
  refusal (Some (Err other)) fault left P spent given =
      ((λ e. (given.0, given.1.0 cc)), λ h. let e = given.1.1 h.1 in cc)

module _ {E : Type 0} where
  -- so is one that goes by what the turn told of
  refusal-told : (answer : Option (Result Entry E)) (fault : E) (left : ℕ) (P : List Entry → Type 0) → (IsNone answer ↔ (left ≡ 0)) → IfSome answer (λ given. (0 < left) × ((given ≡ Err fault) ↔ P (told_by given)))
      → (answer_of answer ≡ Err (Inner fault)) ↔ (0 < left × P (told_by (answer_of answer)))
  refusal-told None fault left P spent given = refusal None fault left (P []) spent given
  refusal-told (Some (Ok told)) fault left P spent given = refusal (Some (Ok told)) fault left (P (told ∷ [])) spent given
  refusal-told (Some (Err other)) fault left P spent given = refusal (Some (Err other)) fault left (P []) spent given

  pub refuses : (answer : Option (Result Entry E)) (result : Result Entry (SharedFault E)) (fault : E) (left : ℕ) (P : List Entry → Type 0) → result ≡ answer_of answer → (IsNone answer ↔ (left ≡ 0))
      → IfSome answer (λ given. (0 < left) × ((given ≡ Err fault) ↔ P (told_by given)))
      → (result ≡ Err (Inner fault)) ↔ (0 < left × P (told_by result))
  refuses answer result fault left P is spent given =
      subst (λ r. (r ≡ Err (Inner fault)) ↔ (0 < left × P (told_by r))) (sym is) (refusal-told answer fault left P spent given)

  unless-spent : (answer : Option (Result Entry E)) (P : List Entry → Type 0) → IfSome answer (λ given. P (told_by given)) → UnlessSpent (answer_of answer) (P (told_by (answer_of answer)))
  unless-spent None P h = tt
  unless-spent (Some (Ok told)) P h = h
  unless-spent (Some (Err fault)) P h = h

  pub in-turn : (answer : Option (Result Entry E)) (result : Result Entry (SharedFault E)) (P : List Entry → Type 0) → result ≡ answer_of answer → IfSome answer (λ given. P (told_by given))
      → UnlessSpent result (P (told_by result))
  in-turn answer result P is h = subst (λ r. UnlessSpent r (P (told_by r))) (sym is) (unless-spent answer P h)
