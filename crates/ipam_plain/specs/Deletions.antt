-- DELs.
use Rattle.std.specs.Prelude.{[], ◌∷◌, Some, None, codes}
use Rattle.ipam_block.specs.declared.state.State.TheVariants.{Confirmed}
use Rattle.ipam_block.specs.HandleOperations.{content}
use Rattle.ipam_records.specs.declared.key.Key.TheVariants as key
use Rattle.ipam_records.specs.declared.record.Record.TheVariants as record_of
use Rattle.ipam_model.specs.declared.answer.Answer.TheVariants as answer
use Rattle.ipam_model.specs.declared.entry.CallName.TheVariants as name
use Rattle.ipam_model.specs.declared.entry.Entry.TheVariants as entry
use Rattle.ipam_model.specs.declared.entry.Told.TheVariants as told
use Rattle.ipam_model.specs.declared.request.Request.TheVariants.{Del}
use Rattle.ipam_model.specs.Course.{Begin}
use Rattle.ipam_model.specs.History.{Base}
use Rattle.ipam_plain.specs.Setting.{slot0, slot1, pool_row, base_of, block_record, affinity_of, handle_of, held, turns, did, get_block, get_handle, updated, deleted, goes}

-- n.c1 holds two addresses of the first block, with one of n.c2 between them, and one of the second
abbrev pub shared_base : Base
shared_base = base_of
    (pool_row
    ∷ (
      8,
      block_record slot0 (Some (codes "a"))
          (held 0 (codes "n.c1") 1 ∷ held 1 (codes "n.c2") 2 ∷ held 2 (codes "n.c1") 3 ∷ []) (3 ∷ []) 3,
    )
    ∷ (9, block_record slot1 (Some (codes "a")) (held 1 (codes "n.c1") 2 ∷ []) (2 ∷ 3 ∷ 0 ∷ []) 3)
    ∷ (2, affinity_of (codes "a") slot0 Confirmed)
    ∷ (3, affinity_of (codes "a") slot1 Confirmed)
    ∷ (6, record_of.Handle (content (codes "n.c1") ((slot0, 2) ∷ (slot1, 1) ∷ [])))
    ∷ (7, handle_of (codes "n.c2") slot0 1)
    ∷ []) 9

-- Block by block its addresses are freed and its count lowered. The other's address stays.
abbrev pub DelOfTwoBlocks : Type 0
DelOfTwoBlocks = goes shared_base
    (Begin 0 (Del (codes "n.c1")) ∷ turns 0 9)
    (entry.Began 0 (Del (codes "n.c1"))
    ∷ get_handle 0 (codes "n.c1") (told.Found 6)
    ∷ get_block 0 slot0 (told.Found 8)
    ∷ updated 0 (key.Block slot0) 8 10
    (block_record slot0 (Some (codes "a")) (held 1 (codes "n.c2") 2 ∷ []) (3 ∷ 0 ∷ 2 ∷ []) 4) None
    ∷ get_handle 0 (codes "n.c1") (told.Found 6)
    ∷ updated 0 (key.Handle (codes "n.c1")) 6 11 (handle_of (codes "n.c1") slot1 1) None
    ∷ get_block 0 slot1 (told.Found 9)
    ∷ updated 0 (key.Block slot1) 9 12 (block_record slot1 (Some (codes "a")) [] (2 ∷ 3 ∷ 0 ∷ 1 ∷ []) 4) None
    ∷ get_handle 0 (codes "n.c1") (told.Found 11)
    ∷ deleted 0 (key.Handle (codes "n.c1")) 11 13 (Some (answer.Deleted 1))
    ∷ [])

-- a handle that is missing holds nothing
abbrev pub DelOfMissing : Type 0
DelOfMissing = goes shared_base
    (Begin 0 (Del (codes "n.c3")) ∷ turns 0 1)
    (entry.Began 0 (Del (codes "n.c3"))
    ∷ did 0 (name.Get (key.Handle (codes "n.c3"))) told.Missing None (Some (answer.Deleted 1))
    ∷ [])
