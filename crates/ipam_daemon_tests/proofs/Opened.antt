-- What was just opened is kept, for a history with nothing in it.
use Rattle.std.proofs.Common.{ℕ, []}
use Rattle.ipam_shared.specs.declared.kept.Kept.{Kept}
use Rattle.ipam_shared.specs.Kept.{IsKept, Stays, Tells}
use Rattle.ipam_shared.specs.Opening.{IsOpened}

pub opened_kept : {D : Type 0} (tells : Tells D) (faults name : D → ℕ) (keeper : D) (first : ℕ) (kept : Kept D) → IsOpened tells faults name keeper first kept → IsKept tells kept
opened_kept tells faults name keeper first kept opened =
    (record { store = kept.cluster.store.store; first = first }, ([], opened.stands))

-- what stays as it was is kept as it was
pub stays_kept : {D : Type 0} (tells : Tells D) (old new : Kept D) → Stays tells old new → IsKept tells old → IsKept tells new
stays_kept tells old new stays (base, (history, kept)) = (base, (history, stays.kept base history kept))
