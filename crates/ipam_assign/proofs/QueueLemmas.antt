-- A queued ordinal is one of the block's, and free.
use Rattle.std.proofs.Common.{◌≡◌, ℕ, ◌<◌, Bool, false, Some, sym}
use Rattle.std.specs.List.{find}
use Rattle.ipam_addr.specs.Width.{cidr_size}
use Rattle.ipam_block.specs.Shape.{BlockValue}
use Rattle.ipam_block.specs.Operations.{is_held}
use Rattle.ipam_block.specs.Sound.{IsBlock}
use Rattle.ipam_block.proofs.FreeOrdinals.{queued-free}
use Rattle.ipam_block.proofs.Members.{in-find}
use Rattle.ipam_block.proofs.Ordinals.{queued-below}

-- an ordinal that is found in the queue
pub found-takeable : (b : BlockValue) (o : ℕ) (test : ℕ → Bool) → IsBlock b → find test b.queue ≡ Some o
    → (o < cidr_size b.cidr) × (is_held b o ≡ false)
found-takeable b o test sound is =
    let queued = (in-find test o b.queue is).0 in
    (queued-below b queued.0 o sound queued.1 (sym queued.2), queued-free b o sound queued)
