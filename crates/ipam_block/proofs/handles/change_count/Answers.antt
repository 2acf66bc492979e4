use Rattle.std.proofs.Common.{sym, subst, arith}
use Rattle.ipam_block.specs.HandleSound.{AreCounts}
use Rattle.ipam_block.proofs.Reading.{AreCounts-counts_with}
use Rattle.ipam_block.proofs.Search.{set-counts_with, remove-counts_with, count_in-gap}
use Rattle.ipam_block.proofs.handles.change_count.Goals as goal

pub unreachable-requires : goal.unreachable-requires
unreachable-requires c =
    let gap = rw c.deref.ensures.value at c.in_default.ensures.absent in
    let none = count_in-gap _ c.requires.sound _ _ gap in
    omega arith

pub returns-then-count-eq0-clause-items : goal.returns-then-count-eq0-clause-items
returns-then-count-eq0-clause-items c =
    let place = rw c.deref.ensures.value at c.in-Ok.ensures.found in
    rw (c.remove.ensures.items, c.if-count-eq0.true) (remove-counts_with _ c.requires.sound _ _ place)

pub returns-then-count-eq0-clause-sound : goal.returns-then-count-eq0-clause-sound
returns-then-count-eq0-clause-sound c =
    subst AreCounts (sym (returns-then-count-eq0-clause-items c))
    (AreCounts-counts_with _ c.requires.sound _ _ (λ some. absurd (omega arith)))

pub returns-else-count-eq0-clause-items : goal.returns-else-count-eq0-clause-items
returns-else-count-eq0-clause-items c =
    let place = rw c.deref.ensures.value at c.in-Ok.ensures.found in
    rw c.counted.ensures.value (set-counts_with _ c.requires.sound _ _ _ (omega arith) place)

pub returns-else-count-eq0-clause-sound : goal.returns-else-count-eq0-clause-sound
returns-else-count-eq0-clause-sound c =
    subst AreCounts (sym (returns-else-count-eq0-clause-items c))
    (AreCounts-counts_with _ c.requires.sound _ _ (λ _. rw (← c.counted.ensures.value) c.counted.ensures.sound))
