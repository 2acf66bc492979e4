-- What is gathered, one item after the other.
use Rattle.std.proofs.Common.{◌≡◌, ℕ, ◌+◌, ◌<◌, List, ◌++◌, length, get_or, drop, sym, ap, ◌∙◌, refl, add-one, drop-cons, append_assoc, length-append}
use Rattle.std.proofs.lemmas.Grind.{flat_map-append}
use Rattle.std.specs.List.{flat_map}
use Rattle.std.specs.Global.{Vec}
use Rattle.ipam_records.specs.declared.record.Record.{Record}
use Rattle.ipam_records.specs.Pages.{rows_of_pages}
use Rattle.ipam_records.proofs.PageLemmas.{rows_of_pages-drop}

module _ {X Y : Type 0} where
  -- a list for each item
  pub step : (f : X → List Y) (xs : List X) (i : ℕ) (x : X) → x ≡ get_or xs i x → i < length xs → (found more all : List Y) → found ++ flat_map f (drop i xs) ≡ all → more ≡ found ++ f x → more ++ flat_map f (drop (i + 1) xs) ≡ all
  step f xs i x e h found more all so_far is =
      let rest = flat_map f (drop (i + 1) xs) in
      let split : flat_map f (drop i xs) ≡ f x ++ rest = (rw (add-one, drop-cons xs i x) refl) ∙ ap (λ y. f y ++ rest) (sym e) in
      ap (λ ys. ys ++ rest) is ∙ (append_assoc {A = Y} found (f x) rest ∙ (sym (ap (λ ys. found ++ ys) split) ∙ so_far))

-- ---- how many
pub count_step : {X Y : Type 0} (f : X → List Y) (xs : List X) (i : ℕ) (x : X) → x ≡ get_or xs i x → i < length xs → length (flat_map f (drop i xs)) ≡ length (f x) + length (flat_map f (drop (i + 1) xs))
count_step f xs i x e h =
    let split : flat_map f (drop i xs) ≡ f x ++ flat_map f (drop (i + 1) xs) = (rw (add-one, drop-cons xs i x) refl) ∙ ap (λ y. f y ++ flat_map f (drop (i + 1) xs)) (sym e) in
    ap length split ∙ length-append (f x) (flat_map f (drop (i + 1) xs))

pub count_page : {Y : Type 0} (f : ℕ × Record → List Y) (pages : List (Vec (ℕ × Record))) (i : ℕ) (page : Vec (ℕ × Record)) → page ≡ get_or pages i page → i < length pages → length (flat_map f (rows_of_pages (drop i pages))) ≡ length (flat_map f page.items) + length (flat_map f (rows_of_pages (drop (i + 1) pages)))
count_page f pages i page e h =
    ap (λ rows. length (flat_map f rows)) (rows_of_pages-drop pages i page e h)
    ∙ (ap length (flat_map-append f page.items (rows_of_pages (drop (i + 1) pages)))
    ∙ length-append (flat_map f page.items) (flat_map f (rows_of_pages (drop (i + 1) pages))))
