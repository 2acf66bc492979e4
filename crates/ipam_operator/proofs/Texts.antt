-- Rows that are loaded one after the other.
use Rattle.std.proofs.Common.{◌≡◌, ℕ, ◌+◌, ◌<◌, List, ◌∷◌, drop, get_or, length, Option, Some, refl, sym, ap, ◌∙◌, add-one, drop-cons}
use Rattle.ipam_json.specs.Members.{◌>>=◌}
use Rattle.ipam_records.specs.declared.call.Row.{Row}
use Rattle.ipam_records.specs.Datastore.{Datastore}
use Rattle.ipam_operator.specs.Datastore.{with_text, with_texts}

next_row : (rows : List Row) (i : ℕ) (row : Row) → row ≡ get_or rows i row → i < length rows → row ∷ drop (i + 1) rows ≡ drop i rows
next_row rows i row is within = sym ((rw (add-one, drop-cons rows i row within) refl) ∙ ap (λ r. r ∷ drop (i + 1) rows) (sym is))

first_text : (rows : List Row) (i : ℕ) (row : Row) → row ≡ get_or rows i row → i < length rows → (store : Datastore) (all : Option Datastore)
    → with_texts (drop i rows) store ≡ all → (with_text row store >>= with_texts (drop (i + 1) rows)) ≡ all
first_text rows i row is within store all so_far = ap (λ (rs : List Row). with_texts rs store) (next_row rows i row is within) ∙ so_far

pub texts_next : (rows : List Row) (i : ℕ) (row : Row) → row ≡ get_or rows i row → i < length rows → (store next : Datastore) (all : Option Datastore)
    → Some next ≡ with_text row store → with_texts (drop i rows) store ≡ all → with_texts (drop (i + 1) rows) next ≡ all
texts_next rows i row is within store next all one so_far =
    ap (λ (o : Option Datastore). o >>= with_texts (drop (i + 1) rows)) one ∙ first_text rows i row is within store all so_far
