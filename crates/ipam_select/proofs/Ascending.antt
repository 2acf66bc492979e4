-- Values put one after another, and a list of one member.
use Rattle.std.proofs.Common.{◌≡◌, ℕ, ◌+◌, ◌<◌, List, [], ◌∷◌, ◌++◌, length, take, drop, get_or, Less, Equal, Greater, refl, sym, ap, ◌∙◌, arith, rules, append_assoc, Vec, Box, Global}
use Rattle.std.proofs.lemmas.List.{drop_more, take_more, take-append-drop, drop_all}
use Rattle.std.specs.Ordering.{nat_cmp, match_ordering}
use Rattle.std.specs.Cmp.Lexicographic.{slice_cmp}
use Rattle.std.specs.List.{insert}
use Rattle.ipam_select.specs.Formula.{Formula, Formulas, formula, formulas, conjunction, disjunction, negation}
use Rattle.ipam_select.specs.Reading.{put_value, one_or}
use Rattle.ipam_select.specs.declared.selector.Selector.{Selector, Not, And, Or, the_lemmas}

abbrev Texts : Type 0
Texts = List (List ℕ)

module _ (v : List ℕ) (all : Texts) (i : ℕ) (w : List ℕ) (h : i < length all) (is : w ≡ get_or all i w) where
  here : drop i all ≡ w ∷ drop (i + 1) all
  here = drop_more all i w h ∙ ap (λ x. x ∷ drop (i + 1) all) (sym is)

  pub put_less : slice_cmp nat_cmp v w ≡ Less → take i all ++ put_value v (drop i all) ≡ insert all i v
  put_less e =
      let o : match_ordering (slice_cmp nat_cmp v w) (v ∷ w ∷ drop (i + 1) all) (w ∷ drop (i + 1) all) (w ∷ put_value v (drop (i + 1) all)) ≡ v ∷ w ∷ drop (i + 1) all = rw e refl in
      ap (λ xs. take i all ++ xs) (ap (put_value v) here ∙ o ∙ ap (λ xs. v ∷ xs) (sym here))

  pub put_equal : slice_cmp nat_cmp v w ≡ Equal → take i all ++ put_value v (drop i all) ≡ all
  put_equal e =
      let o : match_ordering (slice_cmp nat_cmp v w) (v ∷ w ∷ drop (i + 1) all) (w ∷ drop (i + 1) all) (w ∷ put_value v (drop (i + 1) all)) ≡ w ∷ drop (i + 1) all = rw e refl in
      ap (λ xs. take i all ++ xs) (ap (put_value v) here ∙ o ∙ sym here) ∙ take-append-drop i all

  pub put_greater : slice_cmp nat_cmp v w ≡ Greater → take i all ++ put_value v (drop i all) ≡ take (i + 1) all ++ put_value v (drop (i + 1) all)
  put_greater e =
      let o : match_ordering (slice_cmp nat_cmp v w) (v ∷ w ∷ drop (i + 1) all) (w ∷ drop (i + 1) all) (w ∷ put_value v (drop (i + 1) all)) ≡ w ∷ put_value v (drop (i + 1) all) = rw e refl in
      let front : take (i + 1) all ≡ take i all ++ w ∷ [] = take_more all i w h ∙ ap (λ x. take i all ++ x ∷ []) (sym is) in
      ap (λ xs. take i all ++ xs) (ap (put_value v) here ∙ o) ∙ sym (append_assoc (take i all) (w ∷ []) (put_value v (drop (i + 1) all))) ∙ ap (λ xs. xs ++ put_value v (drop (i + 1) all)) (sym front)

pub put_last : (v : List ℕ) (all : Texts) → take (length all) all ++ put_value v (drop (length all) all) ≡ insert all (length all) v
put_last v all = rw (drop_all (length all) all (omega arith)) refl

-- ---- one or several

pub one_or_one : (make : Formulas → Formula) (members : List Selector) (d : Selector) → length members ≡ 1 → d ≡ get_or members 0 d → formula d ≡ one_or make (formulas members)
one_or_one make [] d h e = absurd (omega arith)
one_or_one make (s ∷ []) d h e = ap formula e
one_or_one make (s ∷ t ∷ more) d h e = absurd (omega arith)

pub one_or_more : (make : Formulas → Formula) (members : List Selector) → (length members ≡ 1 → ⊥) → make (formulas members) ≡ one_or make (formulas members)
one_or_more make [] h = refl
one_or_more make (s ∷ []) h = absurd (h refl)
one_or_more make (s ∷ t ∷ more) h = refl

pub formula-And : (members : Vec Selector Global) → formula (And members) ≡ conjunction (formulas members.items)
formula-And members = search (rules, the_lemmas)

pub formula-Or : (members : Vec Selector Global) → formula (Or members) ≡ disjunction (formulas members.items)
formula-Or members = search (rules, the_lemmas)

pub formula-Not : (member : Box Selector Global) → formula (Not member) ≡ negation (formula member.value)
formula-Not member = search (rules, the_lemmas)
