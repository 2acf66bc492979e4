use Rattle.std.proofs.Common.{sym, subst}
use Rattle.ipam_block.specs.HandleSound.{AreCounts}
use Rattle.ipam_block.proofs.Reading.{AreCounts-counts_with, unlisted}
use Rattle.ipam_block.proofs.Search.{set-counts_with, insert-counts_with, count_in-gap}
use Rattle.ipam_block.proofs.handles.put_count.Goals as goal

pub returns-in-Ok-clause-ok : goal.returns-in-Ok-clause-ok
returns-in-Ok-clause-ok c =
    let place = rw c.deref.ensures.value at c.in-Ok.ensures.found in
    rw c.counted-entry.ensures.value (set-counts_with _ c.requires.sound _ _ _ c.requires.some place)

pub returns-in-Ok-clause-sound : goal.returns-in-Ok-clause-sound
returns-in-Ok-clause-sound c =
    subst AreCounts (sym (returns-in-Ok-clause-ok c))
    (AreCounts-counts_with _ c.requires.sound _ _ (λ _. rw (← c.counted-entry.ensures.value) c.counted-entry.ensures.sound))

pub returns-in_ok-insert-in-Err-clause-ok : goal.returns-in_ok-insert-in-Err-clause-ok
returns-in_ok-insert-in-Err-clause-ok c =
    let gap = rw c.deref.ensures.value at c.in-Err.ensures.absent in
    rw (c.in_ok-insert-in-Err.ensures.items, c.counted-entry.ensures.value) (insert-counts_with _ c.requires.sound _ _ _ c.requires.some gap)

pub returns-in_ok-insert-in-Err-clause-sound : goal.returns-in_ok-insert-in-Err-clause-sound
returns-in_ok-insert-in-Err-clause-sound c =
    subst AreCounts (sym (returns-in_ok-insert-in-Err-clause-ok c))
    (AreCounts-counts_with _ c.requires.sound _ _ (λ _. rw (← c.counted-entry.ensures.value) c.counted-entry.ensures.sound))

-- memory is asked for only where the block has no count
pub returns-in_err-insert-in-Err-clause-unlisted : goal.returns-in_err-insert-in-Err-clause-unlisted
returns-in_err-insert-in-Err-clause-unlisted c _ =
    let gap = rw c.deref.ensures.value at c.in-Err.ensures.absent in
    unlisted _ c.requires.sound _ (count_in-gap _ c.requires.sound _ _ gap)
