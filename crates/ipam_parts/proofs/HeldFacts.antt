-- Where the held addresses of a block lie.
use native.Mathlib.Omega.{arith}
use Rattle.std.proofs.Common.{◌<◌, ℕ, zero, suc, List, [], ◌∷◌, All}
use Rattle.std.specs.Prelude.{◌++◌}
use Rattle.ipam_addr.specs.Width.{cidr_size}
use Rattle.ipam_block.specs.Shape.{BlockValue}
use Rattle.ipam_block.specs.Sound.{IsBlock, held_ordinals}
use Rattle.ipam_block.specs.declared.allocation.Allocation.{Allocation}
use Rattle.ipam_block.proofs.Ordinals.{shared-below}

ordinals_held : (n : ℕ) (list : List Allocation) (queue : List ℕ) → All (λ o. o < n) (held_ordinals list ++ queue)
    → All (λ a. a.ordinal < n) list
ordinals_held n [] queue all i d within = absurd (omega arith)
ordinals_held n (a ∷ rest) queue all zero d within = all 0 a.ordinal (omega arith)
ordinals_held n (a ∷ rest) queue all (suc i) d within =
    ordinals_held n rest queue (λ k o inside. all (suc k) o (omega arith)) i d (omega arith)

-- each held ordinal is one of the block's
pub held_below : (b : BlockValue) → IsBlock b → All (λ a. a.ordinal < cidr_size b.cidr) b.allocations
held_below b sound = ordinals_held (cidr_size b.cidr) b.allocations b.queue (shared-below b sound)
