-- The assigned ordinals of a block.
use Rattle.std.proofs.Common.{◌≡◌, ℕ, ◌<◌, List, length, get_or, ap, ◌∙◌, arith}
use Rattle.std.proofs.lemmas.List.{get_or-map, length-map, length-append}
use Rattle.std.proofs.Math.ListN.{get_or-append}
use Rattle.ipam_addr.specs.Width.{cidr_size}
use Rattle.ipam_block.specs.declared.allocation.Allocation.{Allocation}
use Rattle.ipam_block.specs.Shape.{BlockValue}
use Rattle.ipam_block.specs.Sound.{IsBlock, held_ordinals}
use Rattle.ipam_block.proofs.Ordinals.{shared-below}

-- an assigned ordinal is one of the block's
pub held_below : (b : BlockValue) (xs : List Allocation) (i : ℕ) (a : Allocation) → IsBlock b → xs ≡ b.allocations → a ≡ get_or xs i a → i < length xs → a.ordinal < cidr_size b.cidr
held_below b xs i a h same at within =
    let held = held_ordinals b.allocations in
    let long : length xs ≡ length b.allocations = ap length same in
    let count = length-map b.allocations (λ x. x.ordinal) in
    let both = length-append held b.queue in
    let below = shared-below b h i a.ordinal (omega arith) in
    let front = get_or-append held b.queue a.ordinal i (omega arith) in
    let here = get_or-map (λ (x : Allocation). x.ordinal) b.allocations i a a.ordinal (omega arith) in
    let is : a.ordinal ≡ (get_or b.allocations i a).ordinal = ap (λ (x : Allocation). x.ordinal) (at ∙ ap (λ ys. get_or ys i a) same) in
    omega arith
