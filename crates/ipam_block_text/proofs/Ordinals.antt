-- One ordinal more.
use Rattle.std.proofs.Common.{◌≡◌, ◌∙◌, ◌+◌, ℕ, sym, ap₂, List, [], ◌∷◌, ◌++◌, map, arith}
use Rattle.std.proofs.lemmas.List.FromFn.{map-range_with_len_more}
use Rattle.ipam_block.specs.Sound.{ordinals_below}

pub ordinals_below_pushed : {X : Type 0} (f : ℕ → X) (n : ℕ) (xs ys : List X) (x : X) → xs ≡ map f (ordinals_below n) → x ≡ f n → ys ≡ xs ++ x ∷ [] → ys ≡ map f (ordinals_below (n + 1))
ordinals_below_pushed f n xs ys x before is pushed =
    pushed ∙ ap₂ (λ l v. l ++ v ∷ []) before is ∙ sym (map-range_with_len_more f 0 n n (omega arith))
