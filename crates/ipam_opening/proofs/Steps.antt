-- Steps along the rows.
use Rattle.std.proofs.Common.{◌≡◌, ℕ, zero, suc, ◌+◌, ◌<◌, length, Bool, true, false, cond, List, [], ◌∷◌, drop, Some, None, refl, sym, ap, ◌∙◌, arith}
use Rattle.std.specs.Prelude.{slice_get}
use Rattle.std.specs.List.{find}
use Rattle.ipam_records.specs.declared.call.Row.{Row as RowText}
use Rattle.ipam_model.specs.Opened.{reading_of}
use Rattle.ipam_opening.specs.Limits.{at_block, is_block_read, left_behind, or_behind}

-- what is left from a place on
pub from-place : {X : Type 0} → (xs : List X) (i : ℕ) (x : X) → slice_get xs i ≡ Some x → drop i xs ≡ x ∷ drop (suc i) xs
from-place [] i x e = absurd (cc e)
from-place (y ∷ ys) zero x e = let same : y ≡ x = cc e in ap (λ z. z ∷ ys) same
from-place (y ∷ ys) (suc i) x e = from-place ys i x e

pub find-here : {X : Type 0} → (test : X → Bool) (xs : List X) (i : ℕ) (x : X) → slice_get xs i ≡ Some x → test x ≡ true → find test (drop i xs) ≡ Some x
find-here test xs i x e passes = ap (find test) (from-place xs i x e) ∙ ap (λ b. cond b (Some x) (find test (drop (suc i) xs))) passes

pub find-step : {X : Type 0} → (test : X → Bool) (xs : List X) (i : ℕ) (x : X) → slice_get xs i ≡ Some x → test x ≡ false → find test (drop (i + 1) xs) ≡ find test (drop i xs)
find-step test xs i x e fails =
    let next : suc i ≡ i + 1 = omega arith in
    sym (ap (find test) (from-place xs i x e) ∙ (ap (λ b. cond b (Some x) (find test (drop (suc i) xs))) fails ∙ ap (λ n. find test (drop n xs)) next))

pub block-here : (rows : List RowText) (i left : ℕ) (row : RowText) → slice_get rows i ≡ Some row → left_behind (is_block_read (reading_of row)) left ≡ None → at_block (drop i rows) left ≡ Some row
block-here rows i left row e none = ap (λ xs. at_block xs left) (from-place rows i row e) ∙ ap (or_behind row (at_block (drop (suc i) rows))) none

pub block-step : (rows : List RowText) (i left less : ℕ) (row : RowText) → slice_get rows i ≡ Some row → left_behind (is_block_read (reading_of row)) left ≡ Some less → at_block (drop (i + 1) rows) less ≡ at_block (drop i rows) left
block-step rows i left less row e some =
    let next : suc i ≡ i + 1 = omega arith in
    sym (ap (λ xs. at_block xs left) (from-place rows i row e) ∙ (ap (or_behind row (at_block (drop (suc i) rows))) some ∙ ap (λ n. at_block (drop n rows) less) next))

-- a place before the end has an item
pub at-place : {X : Type 0} → (xs : List X) (i : ℕ) → i < length xs → (x : X) × (slice_get xs i ≡ Some x)
at-place [] i h = absurd (omega arith)
at-place (x ∷ xs) zero h = (x, refl)
at-place (x ∷ xs) (suc i) h = at-place xs i (omega arith)
