use Rattle.std.proofs.Common.{◌≡◌, ℕ, ◌+◌, ◌<◌, List, ◌∷◌, ◌||◌, length, drop, get_or, false, ap, ◌∙◌, subst, arith}
use Rattle.std.proofs.lemmas.List.{drop_more}
use Rattle.std.proofs.lemmas.Grind.{common_steps}
use Rattle.ipam_select.specs.Admitting.{has_part, begins_with}
use Rattle.ipam_select.proofs.labels.has_part.Goals as goal

part_after : (part : List ℕ) (b : ℕ) (text : List ℕ) → begins_with part (b ∷ text) ≡ false → has_part part (b ∷ text) ≡ has_part part text
part_after part b text none = ap (λ begins. begins || has_part part text) none

-- where the part doesn't begin at i, it stands in what follows i
next_part : (part text : List ℕ) (i : ℕ) → i < length text → begins_with part (drop i text) ≡ false →
    has_part part (drop i text) ≡ has_part part (drop (i + 1) text)
next_part part text i h none =
    let e = drop_more text i 0 h in
    ap (has_part part) e ∙ part_after part (get_or text i 0) (drop (i + 1) text) (subst (λ xs. begins_with part xs ≡ false) e none)

pub loop-at-preserved : goal.loop-at-preserved
loop-at-preserved c =
    let none : begins_with c.args.part.now (drop c.loop-at.at c.args.text.now) ≡ false = grind (arith, common_steps) in
    c.loop-at.invariant ∙ next_part c.args.part.now c.args.text.now c.loop-at.at c.loop-at-test.true none
