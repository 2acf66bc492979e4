-- What a text holds is printed as the text, and what is printed is held.
use Rattle.std.proofs.Common.{◌≡◌, ℕ, List, true, Option, Some, bytes_eq, refl, sym, ap, ◌∙◌}
use Rattle.std.proofs.lemmas.Option.{option_and_then_some, cond_some}
use Rattle.std.proofs.lemmas.Slice.Eq.{bytes_eq-Decides}
use Rattle.serde_json.specs.Data.{Data}
use Rattle.serde_json.specs.Read.{read}
use Rattle.ipam_json.specs.Held.{held, if_printed}

pub bytes_eq-is : (xs ys : List ℕ) → bytes_eq xs ys ≡ true → xs ≡ ys
bytes_eq-is xs ys e = (bytes_eq-Decides xs ys).0 e

pub bytes_eq-itself : (bytes : List ℕ) → bytes_eq bytes bytes ≡ true
bytes_eq-itself bytes = (bytes_eq-Decides bytes bytes).1 refl

pub if_printed-is : {A : Type 0} (text : A → List ℕ) (body : List ℕ) (v w : A) → if_printed text body v ≡ Some w → (v ≡ w) × (text w ≡ body)
if_printed-is text body v w e =
    let (same, is) = cond_some (bytes_eq (text v) body) v w e in
    (is, ap text (sym is) ∙ bytes_eq-is (text v) body same)

-- a value that is held was found in the body's JSON, and the body is its text
pub record WasHeld {A : Type 0} (found : Data → Option A) (text : A → List ℕ) (body : List ℕ) (v : A) : Type 0 where
  pub json : Data
  pub is_json : read body ≡ Some json
  pub was_found : found json ≡ Some v
  pub is_text : text v ≡ body

pub held-was : {A : Type 0} (found : Data → Option A) (text : A → List ℕ) (body : List ℕ) (v : A) → held found text body ≡ Some v → WasHeld found text body v
unfolding held
held-was found text body v e =
    option_and_then_some _ (read body) v e (λ d is_json e'. option_and_then_some _ (found d) v e' (λ w was_found e''.
    let (same, is_text) = if_printed-is text body w v e'' in
    record { json = d; is_json = is_json; was_found = was_found ∙ ap Some same; is_text = is_text }))

-- a value's text holds it, where it is found in the JSON of the text
pub held-text : {A : Type 0} (found : Data → Option A) (text : A → List ℕ) (v : A) (d : Data) → read (text v) ≡ Some d → found d ≡ Some v → held found text (text v) ≡ Some v
unfolding held
held-text found text v d e f = rw (e, f, bytes_eq-itself (text v)) refl
