use Rattle.std.proofs.Common.{◌≡◌, ℕ, ◌≤◌, length}
use Rattle.ipam_select.specs.Lexing.{tokens, tokens_step, tokens_within}
use Rattle.ipam_select.proofs.Cutting.{tokens_before}
use Rattle.ipam_select.proofs.lexing.tokens.Given as goal

abbrev pub invariant-loop-rest : goal.invariant-loop-rest
invariant-loop-rest l =
    (n : ℕ) × (length l.rest ≤ n) × (tokens l.text ≡ tokens_before l.all.items (tokens_step (tokens_within n) l.rest))

abbrev pub decreases-loop-rest : goal.decreases-loop-rest
decreases-loop-rest l = length l.rest
