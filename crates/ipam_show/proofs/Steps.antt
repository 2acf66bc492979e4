-- What is gathered, one item after the other.
use Rattle.std.proofs.Common.{◌≡◌, ℕ, ◌+◌, ◌<◌, Option, Some, None, List, [], ◌∷◌, ◌++◌, length, get_or, drop, take, map, sym, ap, ◌∙◌, refl, add-one, drop-cons, append_assoc, option_to_list}
use Rattle.std.specs.List.{filter_map, cons_option}
use Rattle.std.specs.Global.{Vec}
use Rattle.std.proofs.lemmas.List.{map_more, at_drop_more}
use Rattle.ipam_records.specs.declared.record.Record.{Record}
use Rattle.ipam_records.specs.Pages.{rows_of_pages}
use Rattle.ipam_records.proofs.PageLemmas.{rows_of_pages-drop}

cons_list : {Y : Type 0} (o : Option Y) (ys : List Y) → option_to_list o ++ ys ≡ cons_option o ys
cons_list None ys = refl
cons_list (Some y) ys = refl

module _ {X Y : Type 0} where
  -- at most one for each item
  pub step_option : (f : X → Option Y) (xs : List X) (i : ℕ) (x : X) → x ≡ get_or xs i x → i < length xs → (o : Option Y) → o ≡ f x → (found more all : List Y) → found ++ filter_map f (drop i xs) ≡ all → more ≡ found ++ option_to_list o → more ++ filter_map f (drop (i + 1) xs) ≡ all
  step_option f xs i x e h o o_is found more all so_far is =
      let rest = filter_map f (drop (i + 1) xs) in
      let split : filter_map f (drop i xs) ≡ cons_option (f x) rest = (rw (add-one, drop-cons xs i x) refl) ∙ ap (λ y. cons_option (f y) rest) (sym e) in
      ap (λ ys. ys ++ rest) is
      ∙ (append_assoc {A = Y} found (option_to_list o) rest
      ∙ (ap (λ ys. found ++ ys) (cons_list o rest ∙ ap (λ v. cons_option v rest) o_is)
      ∙ (sym (ap (λ ys. found ++ ys) split) ∙ so_far)))

-- a list for each page of rows
pub step_page : {Y : Type 0} (g : List (ℕ × Record) → List Y) → ((xs ys : List (ℕ × Record)) → g (xs ++ ys) ≡ g xs ++ g ys) → (pages : List (Vec (ℕ × Record))) (i : ℕ) (page : Vec (ℕ × Record)) → page ≡ get_or pages i page → i < length pages → (found more all : List Y) → found ++ g (rows_of_pages (drop i pages)) ≡ all → more ≡ found ++ g page.items → more ++ g (rows_of_pages (drop (i + 1) pages)) ≡ all
step_page {Y} g splits pages i page e h found more all so_far is =
    let rest = rows_of_pages (drop (i + 1) pages) in
    let split : g (rows_of_pages (drop i pages)) ≡ g page.items ++ g rest = ap g (rows_of_pages-drop pages i page e h) ∙ splits page.items rest in
    ap (λ ys. ys ++ g rest) is ∙ (append_assoc {A = Y} found (g page.items) (g rest) ∙ (sym (ap (λ ys. found ++ ys) split) ∙ so_far))

module _ {X Y : Type 0} where
  -- a list for each item
  pub step_list : (g : List X → List Y) (f : X → List Y) → ((x : X) (xs : List X) → g (x ∷ xs) ≡ f x ++ g xs) → (xs : List X) (i : ℕ) (x : X) → x ≡ get_or xs i x → i < length xs → (found more all : List Y) → found ++ g (drop i xs) ≡ all → more ≡ found ++ f x → more ++ g (drop (i + 1) xs) ≡ all
  step_list g f splits xs i x e h found more all so_far is =
      let rest = g (drop (i + 1) xs) in
      let split : g (drop i xs) ≡ f x ++ rest = at_drop_more g xs i x h ∙ splits (get_or xs i x) (drop (i + 1) xs) ∙ ap (λ y. f y ++ rest) (sym e) in
      ap (λ ys. ys ++ rest) is ∙ (append_assoc {A = Y} found (f x) rest ∙ (sym (ap (λ ys. found ++ ys) split) ∙ so_far))

module _ {X Y : Type 0} where
  -- one for each item, behind those in front
  pub step_map : (f : X → Y) (front : List Y) (xs : List X) (i : ℕ) (x : X) (y : Y) (found more : List Y) → x ≡ get_or xs i x → i < length xs → y ≡ f x → more ≡ found ++ y ∷ [] → found ≡ front ++ map f (take i xs) → more ≡ front ++ map f (take (i + 1) xs)
  step_map f front xs i x y found more at within is pushed so_far =
      let before = map f (take i xs) in
      pushed
      ∙ ap (λ ys. ys ++ y ∷ []) so_far
      ∙ append_assoc front before (y ∷ [])
      ∙ ap (λ z. front ++ (before ++ z ∷ [])) (is ∙ ap f at)
      ∙ ap (λ ys. front ++ ys) (sym (map_more f xs i x within))
