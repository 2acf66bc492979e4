use Rattle.std.proofs.Common.{◌≡◌, ◌<◌, ◌+◌, ℕ, arith, rules, replicate, true, false, set, ap, ◌∙◌, take, length, add-one, subst, List, ◌++◌, ◌∷◌, [], get_or, map}
use Rattle.std.proofs.lemmas.List.{take_all}
use Rattle.std.proofs.Math.Seq.{take-suc}
use Rattle.ipam_block.specs.Sound.{ordinals_below}
use Rattle.ipam_block.proofs.Marks.{is_met, marked-none, marked-push, marked-pass, marks_tell}
use Rattle.ipam_block.proofs.sound.are_all_below.Goals as goal
use Rattle.ipam_block.proofs.sound.are_all_below.Goals.{then-ordinal-count, else-ordinal-count}

take_more : (xs : List ℕ) (i : ℕ) → i < length xs → take (i + 1) xs ≡ take i xs ++ get_or xs i 0 ∷ []
take_more xs i within = rw add-one (take-suc xs i 0 within)

pub loop-ordinal-init : goal.loop-ordinal-init
loop-ordinal-init c =
    let none : c.in_ok-marks.marks.items ≡ replicate c.args.count false = search rules in
    marked-none _ _ none

pub loop-ordinal-preserved : goal.loop-ordinal-preserved
loop-ordinal-preserved c =
    let ords = c.args.ordinals.now in
    let i = c.loop-ordinal.ordinal-index in
    let more = take_more ords i c.loop-ordinal-test.true in
    elim c.if-ordinal-count.branch [
      | then-ordinal-count w ↦ marked-push c.args.count (get_or ords i 0) (take i ords) (take (i + 1) ords) c.if-ordinal-count.marks.items c.loop-ordinal.marks.items more c.loop-ordinal.invariant w.if-ordinal-count.true (ap (λ v. v.items) w.marks-is ∙ ap (λ j. set c.loop-ordinal.marks.items j true) w.from-then-ordinal-count.ensures)
      | else-ordinal-count w ↦ marked-pass c.args.count (get_or ords i 0) (take i ords) (take (i + 1) ords) c.if-ordinal-count.marks.items more (ap (λ v. v.items) w.marks-is ∙ c.loop-ordinal.invariant) w.if-ordinal-count.false
    ]

pub returns : goal.returns
returns c =
    let all : take c.loop-ordinal.ordinal-index c.args.ordinals.now ≡ c.args.ordinals.now = take_all _ _ c.loop-ordinal-test.false in
    let P : List ℕ → Type 0 = λ l. c.loop-ordinal.marks.items ≡ map (is_met l) (ordinals_below c.args.count) in
    let long : length c.args.ordinals.now ≡ c.args.count = omega arith in
    marks_tell c.args.count c.args.ordinals.now c.loop-ordinal.marks.items _ long
    (subst P all c.loop-ordinal.invariant) (rw c.as_slice.ensures.value at c.are_marked.ensures)
