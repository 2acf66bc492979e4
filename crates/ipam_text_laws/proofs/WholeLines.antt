-- Whole lines are cut from a text in one way.
use Rattle.std.proofs.Common.{◌≡◌, ◌≢◌, ℕ, List, [], ◌∷◌, ◌++◌, codes, refl, sym, ap, ap₂, ◌∙◌, append_assoc}
use Rattle.std.specs.List.{concat, AllByRecursion}
use Rattle.std.proofs.lemmas.List.Elements.{All-append, recursion_from_All}
use Rattle.ipam_text_laws.specs.Whole.{IsWholeLine}
use Rattle.ipam_text_laws.proofs.Plain.{IsPlain, Lacks, HasNoFeed-plain}

pub whole-plain : (line : List ℕ) → IsPlain line → IsWholeLine (line ++ codes "\n")
whole-plain line h = (line, HasNoFeed-plain line h, refl)

-- a whole line after a text without a line feed
pub whole-behind : (xs ys : List ℕ) → IsPlain xs → IsWholeLine ys → IsWholeLine (xs ++ ys)
whole-behind xs ys h (line, k, e) =
    (xs ++ line, All-append (λ x. x ≢ 10) xs line (HasNoFeed-plain xs h) k, ap (λ (t : List ℕ). xs ++ t) e ∙ sym (append_assoc xs line (codes "\n")))

abbrev rest_of : List ℕ → List ℕ
rest_of [] = []
rest_of (x ∷ xs) = xs

abbrev pub first_of : List ℕ → ℕ
first_of [] = 0
first_of (x ∷ xs) = x

-- where a byte stands first in both at the end of these texts, they are one
pub cut_at : (stop : ℕ) (a b r s : List ℕ) → Lacks stop a → Lacks stop b → a ++ stop ∷ r ≡ b ++ stop ∷ s → (a ≡ b) × (r ≡ s)
cut_at stop [] [] r s h k same = (refl, ap rest_of same)
cut_at stop [] (y ∷ b) r s h k same = absurd (k.0 (sym (ap first_of same)))
cut_at stop (x ∷ a) [] r s h k same = absurd (h.0 (ap first_of same))
cut_at stop (x ∷ a) (y ∷ b) r s h k same =
    let further = cut_at stop a b r s h.1 k.1 (ap rest_of same) in
    (ap₂ (λ z zs. z ∷ zs) (ap first_of same) further.0, further.1)

-- where two texts begin by whole lines, these are the same, and what follows is
pub cut_lines : (one other rest others : List ℕ) → IsWholeLine one → IsWholeLine other → one ++ rest ≡ other ++ others → (one ≡ other) × (rest ≡ others)
cut_lines one other rest others (a, h, e) (b, k, f) same =
    let left : a ++ 10 ∷ rest ≡ one ++ rest = sym (append_assoc a (10 ∷ []) rest) ∙ ap (λ (t : List ℕ). t ++ rest) (sym e) in
    let right : other ++ others ≡ b ++ 10 ∷ others = ap (λ (t : List ℕ). t ++ others) f ∙ append_assoc b (10 ∷ []) others in
    let both = cut_at 10 a b rest others (recursion_from_All _ a h) (recursion_from_All _ b k) (left ∙ same ∙ right) in
    (e ∙ ap (λ (t : List ℕ). t ++ 10 ∷ []) both.0 ∙ sym f, both.1)

no_line : (one rest : List ℕ) → IsWholeLine one → [] ≡ one ++ rest → ⊥
no_line one rest (a, h, e) same = empty a (same ∙ ap (λ (t : List ℕ). t ++ rest) e ∙ append_assoc a (10 ∷ []) rest)
  where
    empty : (xs : List ℕ) → [] ≡ xs ++ 10 ∷ rest → ⊥
    empty [] f = cc
    empty (x ∷ xs) f = cc

-- one text is that of one list of lines
pub same-lines : (ones others : List (List ℕ)) → AllByRecursion IsWholeLine ones → AllByRecursion IsWholeLine others → concat ones ≡ concat others → ones ≡ others
same-lines [] [] h k same = refl
same-lines [] (other ∷ others) h k same = absurd (no_line other (concat others) k.0 same)
same-lines (one ∷ ones) [] h k same = absurd (no_line one (concat ones) h.0 (sym same))
same-lines (one ∷ ones) (other ∷ others) h k same =
    let first = cut_lines one other (concat ones) (concat others) h.0 k.0 same in
    ap₂ (λ z zs. z ∷ zs) first.0 (same-lines ones others h.1 k.1 first.1)
