-- Releases of an affinity that race with ADDs.
use Rattle.std.specs.Prelude.{ℕ, ◌+◌, List, [], ◌∷◌, ◌++◌, Some, None, codes}
use Rattle.ipam_block.specs.declared.state.State.TheVariants.{Pending, Confirmed, PendingDeletion}
use Rattle.ipam_records.specs.declared.key.Key.TheVariants as key
use Rattle.ipam_model.specs.declared.answer.Answer.TheVariants as answer
use Rattle.ipam_model.specs.declared.entry.CallName.TheVariants as name
use Rattle.ipam_model.specs.declared.entry.Entry.{Entry}
use Rattle.ipam_model.specs.declared.entry.Entry.TheVariants as entry
use Rattle.ipam_model.specs.declared.entry.Fate.TheVariants.{Well}
use Rattle.ipam_model.specs.declared.entry.Told.TheVariants as told
use Rattle.ipam_model.specs.declared.request.Request.{Request}
use Rattle.ipam_model.specs.declared.request.Request.TheVariants as request
use Rattle.ipam_model.specs.Course.{Begin, Turn, Stop}
use Rattle.ipam_model.specs.History.{Base}
use Rattle.ipam_plain.specs.Setting.{v4, slot0, pool_row, base_of, ready_base, bare_base, held_base, block_record, affinity_of, handle_of, held, queue4, add, turns, did, did_read, get_block, get_affinity, get_handle, created, updated, deleted, five_reads, given, goes}

abbrev pub release_first : Request
release_first = request.Release (codes "a") slot0

-- The ADD takes the first address of the block that it claimed. The last write was at the revision `last`, and that
-- of the block at `block`. With this one the block has so many writes. The reads begin at c, and the write is at w.
abbrev pub first_taken : (last block count c w : ℕ) → List Entry
first_taken last block count c w =
    five_reads 0 1 1
    ++ get_handle 0 (codes "n.c1") told.Missing
    ∷ created 0 (key.Handle (codes "n.c1")) (last + 1) (handle_of (codes "n.c1") slot0 1) None
    ∷ updated 0 (key.Block slot0) block (last + 2)
    (block_record slot0 (Some (codes "a")) (held 0 (codes "n.c1") count ∷ []) (1 ∷ 2 ∷ 3 ∷ []) count)
    (Some (given (v4 0) c w))
    ∷ []

-- The ADD claims the block, which is nobody's, confirms the claim, and takes the first address.
abbrev pub claimed_anew : (last block count c w : ℕ) → List Entry
claimed_anew last block count c w =
    five_reads 0 0 1
    ++ get_affinity 0 (codes "a") slot0 told.Missing
    ∷ created 0 (key.Affinity (codes "a") slot0) (last + 1) (affinity_of (codes "a") slot0 Pending) None
    ∷ updated 0 (key.Block slot0) block (last + 2) (block_record slot0 (Some (codes "a")) [] queue4 count) None
    ∷ updated 0 (key.Affinity (codes "a") slot0) (last + 1) (last + 3) (affinity_of (codes "a") slot0 Confirmed) None
    ∷ first_taken (last + 3) (last + 2) (count + 1) c w

-- A claim is overtaken before its write of the block, which the release creates. The ADD loses this
-- race, claims the block that is nobody's now, and takes its first address.
abbrev pub ReleasedBeforeTheClaim : Type 0
ReleasedBeforeTheClaim = goes bare_base
    (Begin 0 (add (codes "n.c1") (codes "a")) ∷ turns 0 7
    ++ Begin 1 release_first ∷ turns 1 6
    ++ Turn 0 Well ∷ turns 0 17)
    (entry.Began 0 (add (codes "n.c1") (codes "a"))
    ∷ five_reads 0 0 0
    ++ get_affinity 0 (codes "a") slot0 told.Missing
    ∷ created 0 (key.Affinity (codes "a") slot0) 2 (affinity_of (codes "a") slot0 Pending) None
    ∷ entry.Began 1 release_first
    ∷ get_affinity 1 (codes "a") slot0 (told.Found 2)
    ∷ updated 1 (key.Affinity (codes "a") slot0) 2 3 (affinity_of (codes "a") slot0 PendingDeletion) None
    ∷ get_block 1 slot0 told.Missing
    ∷ get_affinity 1 (codes "a") slot0 (told.Found 3)
    ∷ created 1 (key.Block slot0) 4 (block_record slot0 None [] queue4 0) None
    ∷ deleted 1 (key.Affinity (codes "a") slot0) 3 5 (Some answer.Released)
    ∷ did_read 0 (name.Create (key.Block slot0)) (told.Exists 4)
    ∷ claimed_anew 5 4 1 25 32)

-- The ADD finds the affinity marked for deletion, takes it back and confirms it again. The release
-- has read the block before, so its write is lost.
abbrev pub AffinityTakenBack : Type 0
AffinityTakenBack = goes ready_base
    (Begin 1 release_first ∷ turns 1 4
    ++ Begin 0 (add (codes "n.c1") (codes "a")) ∷ turns 0 9
    ++ Turn 1 Well ∷ Stop 1 ∷ turns 0 8)
    (entry.Began 1 release_first
    ∷ get_affinity 1 (codes "a") slot0 (told.Found 2)
    ∷ updated 1 (key.Affinity (codes "a") slot0) 2 4 (affinity_of (codes "a") slot0 PendingDeletion) None
    ∷ get_block 1 slot0 (told.Found 3)
    ∷ get_affinity 1 (codes "a") slot0 (told.Found 4)
    ∷ entry.Began 0 (add (codes "n.c1") (codes "a"))
    ∷ five_reads 0 1 1
    ++ get_affinity 0 (codes "a") slot0 (told.Found 4)
    ∷ updated 0 (key.Affinity (codes "a") slot0) 4 5 (affinity_of (codes "a") slot0 Pending) None
    ∷ updated 0 (key.Block slot0) 3 6 (block_record slot0 (Some (codes "a")) [] queue4 1) None
    ∷ updated 0 (key.Affinity (codes "a") slot0) 5 7 (affinity_of (codes "a") slot0 Confirmed) None
    ∷ did_read 1 (name.Update (key.Block slot0) 3) (told.Conflict 6)
    ∷ entry.Stopped 1
    ∷ first_taken 7 6 2 17 24)

-- ---- a release with nobody beside it

-- The block keeps what is held in it. Then there is no affinity any more.
abbrev pub ReleasedTwice : Type 0
ReleasedTwice = goes held_base
    (Begin 0 release_first ∷ turns 0 6 ++ Begin 0 release_first ∷ turns 0 1)
    (entry.Began 0 release_first
    ∷ get_affinity 0 (codes "a") slot0 (told.Found 2)
    ∷ updated 0 (key.Affinity (codes "a") slot0) 2 5 (affinity_of (codes "a") slot0 PendingDeletion) None
    ∷ get_block 0 slot0 (told.Found 3)
    ∷ get_affinity 0 (codes "a") slot0 (told.Found 5)
    ∷ updated 0 (key.Block slot0) 3 6
    (block_record slot0 None (held 0 (codes "n.c1") 1 ∷ []) (1 ∷ 2 ∷ 3 ∷ []) 2) None
    ∷ deleted 0 (key.Affinity (codes "a") slot0) 5 7 (Some answer.Released)
    ∷ entry.Began 0 release_first
    ∷ did 0 (name.Get (key.Affinity (codes "a") slot0)) told.Missing None (Some (answer.NoAffinity 8))
    ∷ [])

-- a claim of the node a was given up, and the block is b's
abbrev pub others_block : Base
others_block = base_of
    (pool_row
    ∷ (4, block_record slot0 (Some (codes "b")) [] queue4 0)
    ∷ (2, affinity_of (codes "a") slot0 Pending)
    ∷ (3, affinity_of (codes "b") slot0 Confirmed)
    ∷ []) 4

-- The affinity of a goes, and the block stays b's.
abbrev pub ReleasedBesideAnother : Type 0
ReleasedBesideAnother = goes others_block
    (Begin 0 release_first ∷ turns 0 6)
    (entry.Began 0 release_first
    ∷ get_affinity 0 (codes "a") slot0 (told.Found 2)
    ∷ updated 0 (key.Affinity (codes "a") slot0) 2 5 (affinity_of (codes "a") slot0 PendingDeletion) None
    ∷ get_block 0 slot0 (told.Found 4)
    ∷ get_affinity 0 (codes "a") slot0 (told.Found 5)
    ∷ updated 0 (key.Block slot0) 4 6 (block_record slot0 (Some (codes "b")) [] queue4 1) None
    ∷ deleted 0 (key.Affinity (codes "a") slot0) 5 7 (Some answer.Released)
    ∷ [])

-- ---- a release that goes back to its first step

-- The ADD takes the marked affinity back before the release reads it again. The release marks it
-- anew, so the ADD loses its confirmation. It claims the block once the release is done.
abbrev pub MarkTakenBack : Type 0
MarkTakenBack = goes ready_base
    (Begin 1 release_first ∷ turns 1 2
    ++ Begin 0 (add (codes "n.c1") (codes "a")) ∷ turns 0 7
    ++ turns 1 4 ++ turns 0 2 ++ turns 1 4 ++ turns 0 17)
    (entry.Began 1 release_first
    ∷ get_affinity 1 (codes "a") slot0 (told.Found 2)
    ∷ updated 1 (key.Affinity (codes "a") slot0) 2 4 (affinity_of (codes "a") slot0 PendingDeletion) None
    ∷ entry.Began 0 (add (codes "n.c1") (codes "a"))
    ∷ five_reads 0 1 1
    ++ get_affinity 0 (codes "a") slot0 (told.Found 4)
    ∷ updated 0 (key.Affinity (codes "a") slot0) 4 5 (affinity_of (codes "a") slot0 Pending) None
    ∷ get_block 1 slot0 (told.Found 3)
    ∷ get_affinity 1 (codes "a") slot0 (told.Found 5)
    ∷ get_affinity 1 (codes "a") slot0 (told.Found 5)
    ∷ updated 1 (key.Affinity (codes "a") slot0) 5 6 (affinity_of (codes "a") slot0 PendingDeletion) None
    ∷ updated 0 (key.Block slot0) 3 7 (block_record slot0 (Some (codes "a")) [] queue4 1) None
    ∷ did_read 0 (name.Update (key.Affinity (codes "a") slot0) 5) (told.Conflict 6)
    ∷ get_block 1 slot0 (told.Found 7)
    ∷ get_affinity 1 (codes "a") slot0 (told.Found 6)
    ∷ updated 1 (key.Block slot0) 7 8 (block_record slot0 None [] queue4 2) None
    ∷ deleted 1 (key.Affinity (codes "a") slot0) 6 9 (Some answer.Released)
    ∷ claimed_anew 9 8 3 30 37)

-- The ADD takes the affinity back after the release's write of the block. The release loses its
-- deletion, and reads the affinity again.
abbrev pub DeletionLost : Type 0
DeletionLost = goes ready_base
    (Begin 1 release_first ∷ turns 1 5
    ++ Begin 0 (add (codes "n.c1") (codes "a")) ∷ turns 0 7
    ++ turns 1 2 ++ Stop 1 ∷ turns 0 2)
    (entry.Began 1 release_first
    ∷ get_affinity 1 (codes "a") slot0 (told.Found 2)
    ∷ updated 1 (key.Affinity (codes "a") slot0) 2 4 (affinity_of (codes "a") slot0 PendingDeletion) None
    ∷ get_block 1 slot0 (told.Found 3)
    ∷ get_affinity 1 (codes "a") slot0 (told.Found 4)
    ∷ updated 1 (key.Block slot0) 3 5 (block_record slot0 None [] queue4 1) None
    ∷ entry.Began 0 (add (codes "n.c1") (codes "a"))
    ∷ five_reads 0 1 1
    ++ get_affinity 0 (codes "a") slot0 (told.Found 4)
    ∷ updated 0 (key.Affinity (codes "a") slot0) 4 6 (affinity_of (codes "a") slot0 Pending) None
    ∷ did_read 1 (name.Delete (key.Affinity (codes "a") slot0) 4) (told.Conflict 6)
    ∷ get_affinity 1 (codes "a") slot0 (told.Found 6)
    ∷ entry.Stopped 1
    ∷ updated 0 (key.Block slot0) 5 7 (block_record slot0 (Some (codes "a")) [] queue4 2) None
    ∷ updated 0 (key.Affinity (codes "a") slot0) 6 8 (affinity_of (codes "a") slot0 Confirmed) None
    ∷ [])

-- Another releases the affinity whole before the second read, which finds nothing any more. So it is
-- looked for again.
abbrev pub MarkGone : Type 0
MarkGone = goes ready_base
    (Begin 0 release_first ∷ turns 0 2 ++ Begin 1 release_first ∷ turns 1 6 ++ turns 0 3)
    (entry.Began 0 release_first
    ∷ get_affinity 0 (codes "a") slot0 (told.Found 2)
    ∷ updated 0 (key.Affinity (codes "a") slot0) 2 4 (affinity_of (codes "a") slot0 PendingDeletion) None
    ∷ entry.Began 1 release_first
    ∷ get_affinity 1 (codes "a") slot0 (told.Found 4)
    ∷ updated 1 (key.Affinity (codes "a") slot0) 4 5 (affinity_of (codes "a") slot0 PendingDeletion) None
    ∷ get_block 1 slot0 (told.Found 3)
    ∷ get_affinity 1 (codes "a") slot0 (told.Found 5)
    ∷ updated 1 (key.Block slot0) 3 6 (block_record slot0 None [] queue4 1) None
    ∷ deleted 1 (key.Affinity (codes "a") slot0) 5 7 (Some answer.Released)
    ∷ get_block 0 slot0 (told.Found 6)
    ∷ get_affinity 0 (codes "a") slot0 told.Missing
    ∷ did 0 (name.Get (key.Affinity (codes "a") slot0)) told.Missing None (Some (answer.NoAffinity 12))
    ∷ [])
