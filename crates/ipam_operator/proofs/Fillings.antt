-- Rows that are put in one after the other.
use Rattle.std.proofs.Common.{◌≡◌, ℕ, ◌+◌, ◌<◌, ◌≤◌, List, ◌∷◌, drop, get_or, length, Option, Result, refl, sym, ap, ◌∙◌, subst, add-one, drop-cons, drop_of_length-le}
use Rattle.ipam_io.specs.Counts.{Rose}
use Rattle.ipam_keeper.specs.declared.keeper.KeepFault.{KeepFault}
use Rattle.ipam_keeper.specs.Keeping.{OnFailed, UnlessFailed, known_with}
use Rattle.ipam_records.specs.declared.call.Row.{Row}
use Rattle.ipam_operator.specs.Filling.{filled}

next_row : (rows : List Row) (i : ℕ) (row : Row) → row ≡ get_or rows i row → i < length rows → drop i rows ≡ row ∷ drop (i + 1) rows
next_row rows i row is within = (rw (add-one, drop-cons rows i row within) refl) ∙ ap (λ r. r ∷ drop (i + 1) rows) (sym is)

pub filled_next : (rows : List Row) (i : ℕ) (row : Row) → row ≡ get_or rows i row → i < length rows → (told next all : Option (List Row))
    → next ≡ known_with row told → filled (drop i rows) told ≡ all → filled (drop (i + 1) rows) next ≡ all
filled_next rows i row is within told next all put so_far =
    ap (λ (o : Option (List Row)). filled (drop (i + 1) rows) o) put
    ∙ (sym (ap (λ (rs : List Row). filled rs told) (next_row rows i row is within)) ∙ so_far)

pub filled_end : (rows : List Row) (i : ℕ) → length rows ≤ i → (told all : Option (List Row)) → filled (drop i rows) told ≡ all → told ≡ all
filled_end rows i over told all so_far = sym (ap (λ (rs : List Row). filled rs told) (drop_of_length-le rows over)) ∙ so_far

-- the faults of a put, counted from before the puts that went well
pub failed_since : (came : Result (Unit {0}) KeepFault) (before now after : ℕ) → now ≡ before → OnFailed came (Rose now after) → OnFailed came (Rose before after)
failed_since came before now after same fault = subst (λ (n : ℕ). OnFailed came (Rose n after)) same fault

pub unfailed_since : (came : Result (Unit {0}) KeepFault) (before now after : ℕ) → now ≡ before → UnlessFailed came (after ≡ now) → UnlessFailed came (after ≡ before)
unfailed_since came before now after same none = subst (λ (n : ℕ). UnlessFailed came (after ≡ n)) same none
