use Rattle.std.proofs.Common.{◌≡◌, ℕ, ◌+◌, ◌*◌, ◌≤◌, length}
use Rattle.ipam_select.specs.Reading.{literal, chain_with, joined}
use Rattle.ipam_select.specs.declared.token.Mark.TheVariants.{Ands, Bars}
use Rattle.ipam_select.proofs.Members.{formulas_before}
use Rattle.ipam_select.proofs.reading.+reading.Given as goal

-- The measure of the calls is the depth that is left, so it bounds how deep they nest.
abbrev pub decreases-choice : goal.decreases-choice
decreases-choice l = 5 * l.depth + 4

abbrev pub decreases-chain : goal.decreases-chain
decreases-chain l = 5 * l.depth + 3

abbrev pub decreases-literal : goal.decreases-literal
decreases-literal l = 5 * l.depth + 2

abbrev pub decreases-marked : goal.decreases-marked
decreases-marked l = 5 * l.depth + 1

abbrev pub decreases-negation : goal.decreases-negation
decreases-negation l = 5 * l.depth

abbrev pub decreases-group : goal.decreases-group
decreases-group l = 5 * l.depth

abbrev pub invariant-choice-loop-members : goal.invariant-choice-loop-members
invariant-choice-loop-members l =
    (n : ℕ) × (length l.tokens.items ≤ n)
    × (joined Bars (chain_with (literal l.depth)) (length l.fn.tokens.items) l.fn.tokens.items
    ≡ formulas_before l.members.items (joined Bars (chain_with (literal l.depth)) n l.tokens.items))

abbrev pub decreases-choice-loop-members : goal.decreases-choice-loop-members
decreases-choice-loop-members l = length l.tokens.items

abbrev pub invariant-chain-loop-members : goal.invariant-chain-loop-members
invariant-chain-loop-members l =
    (n : ℕ) × (length l.tokens.items ≤ n)
    × (joined Ands (literal l.depth) (length l.fn.tokens.items) l.fn.tokens.items
    ≡ formulas_before l.members.items (joined Ands (literal l.depth) n l.tokens.items))

abbrev pub decreases-chain-loop-members : goal.decreases-chain-loop-members
decreases-chain-loop-members l = length l.tokens.items
