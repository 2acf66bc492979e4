-- ADDs and a DEL that lose races to an ADD.
use Rattle.std.specs.Prelude.{◌≡◌, List, [], ◌∷◌, ◌++◌, Some, None, codes}
use Rattle.ipam_block.specs.declared.state.State.TheVariants.{Pending, Confirmed}
use Rattle.ipam_records.specs.declared.key.Key.TheVariants as key
use Rattle.ipam_model.specs.declared.answer.Answer.TheVariants as answer
use Rattle.ipam_model.specs.declared.entry.CallName.TheVariants as name
use Rattle.ipam_model.specs.declared.entry.Entry.TheVariants as entry
use Rattle.ipam_model.specs.declared.entry.Told.TheVariants as told
use Rattle.ipam_model.specs.declared.request.Request.TheVariants.{Del}
use Rattle.ipam_model.specs.Course.{Event, Begin}
use Rattle.ipam_plain.specs.Setting.{v4, slot0, slot1, pool_row, ready_base, bare_base, block_record, affinity_of, handle_of, held_base, held, queue4, add, add_this, turns, did_read, get_block, get_affinity, get_handle, created, updated, deleted, five_reads, given, given_this, goes, store_after_events, three_reads, second_given, first_given}

-- ---- two ADDs on one node

-- Both choose the first address. The second finds the block changed, lowers its count again, and
-- takes the next address.
abbrev pub LostBlockWrite : Type 0
LostBlockWrite = goes ready_base
    (Begin 0 (add (codes "n.c1") (codes "a")) ∷ Begin 1 (add (codes "n.c2") (codes "a"))
    ∷ turns 0 5 ++ turns 1 5 ++ turns 0 3 ++ turns 1 13)
    (entry.Began 0 (add (codes "n.c1") (codes "a"))
    ∷ entry.Began 1 (add (codes "n.c2") (codes "a"))
    ∷ five_reads 0 1 1
    ++ five_reads 1 1 1
    ++ first_given 0 (Some (given (v4 0) 2 14))
    ++ get_handle 1 (codes "n.c2") told.Missing
    ∷ created 1 (key.Handle (codes "n.c2")) 6 (handle_of (codes "n.c2") slot0 1) None
    ∷ did_read 1 (name.Update (key.Block slot0) 3) (told.Conflict 5)
    ∷ get_handle 1 (codes "n.c2") (told.Found 6)
    ∷ deleted 1 (key.Handle (codes "n.c2")) 6 7 None
    ∷ five_reads 1 1 1
    ++ get_handle 1 (codes "n.c2") told.Missing
    ∷ created 1 (key.Handle (codes "n.c2")) 8 (handle_of (codes "n.c2") slot0 1) None
    ∷ updated 1 (key.Block slot0) 5 9
    (block_record slot0 (Some (codes "a")) (held 0 (codes "n.c1") 1 ∷ held 1 (codes "n.c2") 2 ∷ []) (2 ∷ 3 ∷ []) 2)
    (Some (given (v4 1) 20 27))
    ∷ [])

-- ---- two ADDs on two nodes

abbrev pub two_nodes : List Event
two_nodes =
    Begin 0 (add (codes "n.c1") (codes "a")) ∷ Begin 1 (add (codes "n.c2") (codes "b"))
    ∷ turns 0 5 ++ turns 1 5 ++ turns 0 12 ++ turns 1 20

-- Both choose to claim the first slot. The second finds a block there, and claims the second slot.
abbrev pub TwoNodesRace : Type 0
TwoNodesRace = goes bare_base two_nodes
    (entry.Began 0 (add (codes "n.c1") (codes "a"))
    ∷ entry.Began 1 (add (codes "n.c2") (codes "b"))
    ∷ five_reads 0 0 0
    ++ five_reads 1 0 0
    ++ get_affinity 0 (codes "a") slot0 told.Missing
    ∷ created 0 (key.Affinity (codes "a") slot0) 2 (affinity_of (codes "a") slot0 Pending) None
    ∷ created 0 (key.Block slot0) 3 (block_record slot0 (Some (codes "a")) [] queue4 0) None
    ∷ updated 0 (key.Affinity (codes "a") slot0) 2 4 (affinity_of (codes "a") slot0 Confirmed) None
    ∷ five_reads 0 1 1
    ++ get_handle 0 (codes "n.c1") told.Missing
    ∷ created 0 (key.Handle (codes "n.c1")) 5 (handle_of (codes "n.c1") slot0 1) None
    ∷ updated 0 (key.Block slot0) 3 6
    (block_record slot0 (Some (codes "a")) (held 0 (codes "n.c1") 1 ∷ []) (1 ∷ 2 ∷ 3 ∷ []) 1)
    (Some (given (v4 0) 16 23))
    ∷ get_affinity 1 (codes "b") slot0 told.Missing
    ∷ created 1 (key.Affinity (codes "b") slot0) 7 (affinity_of (codes "b") slot0 Pending) None
    ∷ did_read 1 (name.Create (key.Block slot0)) (told.Exists 6)
    ∷ five_reads 1 2 1
    ++ get_affinity 1 (codes "b") slot1 told.Missing
    ∷ created 1 (key.Affinity (codes "b") slot1) 8 (affinity_of (codes "b") slot1 Pending) None
    ∷ created 1 (key.Block slot1) 9 (block_record slot1 (Some (codes "b")) [] queue4 0) None
    ∷ updated 1 (key.Affinity (codes "b") slot1) 8 10 (affinity_of (codes "b") slot1 Confirmed) None
    ∷ five_reads 1 3 2
    ++ get_handle 1 (codes "n.c2") told.Missing
    ∷ created 1 (key.Handle (codes "n.c2")) 11 (handle_of (codes "n.c2") slot1 1) None
    ∷ updated 1 (key.Block slot1) 9 12
    (block_record slot1 (Some (codes "b")) (held 0 (codes "n.c2") 1 ∷ []) (1 ∷ 2 ∷ 3 ∷ []) 1)
    (Some (given (v4 4) 36 43))
    ∷ [])

-- Then each node has one confirmed block. The pending affinity of b to the first slot stays.
abbrev pub TwoNodesRows : Type 0
TwoNodesRows = store_after_events bare_base two_nodes ≡ record {
  rows =
      pool_row
      ∷ (6, block_record slot0 (Some (codes "a")) (held 0 (codes "n.c1") 1 ∷ []) (1 ∷ 2 ∷ 3 ∷ []) 1)
      ∷ (12, block_record slot1 (Some (codes "b")) (held 0 (codes "n.c2") 1 ∷ []) (1 ∷ 2 ∷ 3 ∷ []) 1)
      ∷ (4, affinity_of (codes "a") slot0 Confirmed)
      ∷ (7, affinity_of (codes "b") slot0 Pending)
      ∷ (10, affinity_of (codes "b") slot1 Confirmed)
      ∷ (5, handle_of (codes "n.c1") slot0 1)
      ∷ (11, handle_of (codes "n.c2") slot1 1)
      ∷ [];
  counter = 12;
}

-- ---- two ADDs for one handle

-- The first loses its creation of the handle, reads it again and raises the count to two. Then it
-- loses its write of the block, lowers the count to one, and takes the next address.
abbrev pub RaceForOneHandle : Type 0
RaceForOneHandle = goes ready_base
    (Begin 0 (add (codes "n.c1") (codes "a")) ∷ Begin 1 (add (codes "n.c1") (codes "a"))
    ∷ turns 0 6 ++ turns 1 8 ++ turns 0 14)
    (entry.Began 0 (add (codes "n.c1") (codes "a"))
    ∷ entry.Began 1 (add (codes "n.c1") (codes "a"))
    ∷ five_reads 0 1 1
    ++ get_handle 0 (codes "n.c1") told.Missing
    ∷ five_reads 1 1 1
    ++ first_given 1 (Some (given (v4 0) 8 15))
    ++ did_read 0 (name.Create (key.Handle (codes "n.c1"))) (told.Exists 4)
    ∷ get_handle 0 (codes "n.c1") (told.Found 4)
    ∷ updated 0 (key.Handle (codes "n.c1")) 4 6 (handle_of (codes "n.c1") slot0 2) None
    ∷ did_read 0 (name.Update (key.Block slot0) 3) (told.Conflict 5)
    ∷ get_handle 0 (codes "n.c1") (told.Found 6)
    ∷ updated 0 (key.Handle (codes "n.c1")) 6 7 (handle_of (codes "n.c1") slot0 1) None
    ∷ five_reads 0 1 1
    ++ get_handle 0 (codes "n.c1") (told.Found 7)
    ∷ updated 0 (key.Handle (codes "n.c1")) 7 8 (handle_of (codes "n.c1") slot0 2) None
    ∷ updated 0 (key.Block slot0) 5 9
    (block_record slot0 (Some (codes "a")) (held 0 (codes "n.c1") 1 ∷ held 1 (codes "n.c1") 2 ∷ []) (2 ∷ 3 ∷ []) 2)
    (Some (given (v4 1) 22 29))
    ∷ [])

-- ---- two ADDs of one address

-- The first loses its write of the block, lowers its count, and finds the address taken.
abbrev pub RaceForOneAddress : Type 0
RaceForOneAddress = goes ready_base
    (Begin 0 (add_this (codes "n.c1") (codes "a") (v4 1)) ∷ turns 0 5
    ++ Begin 1 (add_this (codes "n.c2") (codes "a") (v4 1)) ∷ turns 1 6 ++ turns 0 6)
    (entry.Began 0 (add_this (codes "n.c1") (codes "a") (v4 1))
    ∷ three_reads 0 told.Missing slot0 (told.Found 3) None
    ++ get_handle 0 (codes "n.c1") told.Missing
    ∷ created 0 (key.Handle (codes "n.c1")) 4 (handle_of (codes "n.c1") slot0 1) None
    ∷ entry.Began 1 (add_this (codes "n.c2") (codes "a") (v4 1))
    ∷ three_reads 1 told.Missing slot0 (told.Found 3) None
    ++ second_given 1 (codes "n.c2") 5 (given_this (v4 1) 7 12)
    ++ did_read 0 (name.Update (key.Block slot0) 3) (told.Conflict 6)
    ∷ get_handle 0 (codes "n.c1") (told.Found 4)
    ∷ deleted 0 (key.Handle (codes "n.c1")) 4 7 None
    ∷ three_reads 0 told.Missing slot0 (told.Found 6) (Some (answer.Taken (codes "n.c2") 18)))

-- ---- a DEL and an ADD

-- The DEL loses its write of the block, reads the block again, and writes it.
abbrev pub DelLosesItsWrite : Type 0
DelLosesItsWrite = goes held_base
    (Begin 0 (Del (codes "n.c1")) ∷ turns 0 2
    ++ Begin 1 (add (codes "n.c2") (codes "a")) ∷ turns 1 8 ++ turns 0 5)
    (entry.Began 0 (Del (codes "n.c1"))
    ∷ get_handle 0 (codes "n.c1") (told.Found 4)
    ∷ get_block 0 slot0 (told.Found 3)
    ∷ entry.Began 1 (add (codes "n.c2") (codes "a"))
    ∷ five_reads 1 1 1
    ++ get_handle 1 (codes "n.c2") told.Missing
    ∷ created 1 (key.Handle (codes "n.c2")) 5 (handle_of (codes "n.c2") slot0 1) None
    ∷ updated 1 (key.Block slot0) 3 6
    (block_record slot0 (Some (codes "a")) (held 0 (codes "n.c1") 1 ∷ held 1 (codes "n.c2") 2 ∷ []) (2 ∷ 3 ∷ []) 2)
    (Some (given (v4 1) 4 11))
    ∷ did_read 0 (name.Update (key.Block slot0) 3) (told.Conflict 6)
    ∷ get_block 0 slot0 (told.Found 6)
    ∷ updated 0 (key.Block slot0) 6 7
    (block_record slot0 (Some (codes "a")) (held 1 (codes "n.c2") 2 ∷ []) (2 ∷ 3 ∷ 0 ∷ []) 3) None
    ∷ get_handle 0 (codes "n.c1") (told.Found 4)
    ∷ deleted 0 (key.Handle (codes "n.c1")) 4 8 (Some (answer.Deleted 1))
    ∷ [])

-- The DEL has freed the address when an ADD raises the count of the same handle. So it loses its
-- lowering, reads the handle again, and lowers the count to one.
abbrev pub DelLosesItsLowering : Type 0
DelLosesItsLowering = goes held_base
    (Begin 0 (Del (codes "n.c1")) ∷ turns 0 4
    ++ Begin 1 (add (codes "n.c1") (codes "a")) ∷ turns 1 8 ++ turns 0 3)
    (entry.Began 0 (Del (codes "n.c1"))
    ∷ get_handle 0 (codes "n.c1") (told.Found 4)
    ∷ get_block 0 slot0 (told.Found 3)
    ∷ updated 0 (key.Block slot0) 3 5 (block_record slot0 (Some (codes "a")) [] (1 ∷ 2 ∷ 3 ∷ 0 ∷ []) 2) None
    ∷ get_handle 0 (codes "n.c1") (told.Found 4)
    ∷ entry.Began 1 (add (codes "n.c1") (codes "a"))
    ∷ five_reads 1 1 1
    ++ get_handle 1 (codes "n.c1") (told.Found 4)
    ∷ updated 1 (key.Handle (codes "n.c1")) 4 6 (handle_of (codes "n.c1") slot0 2) None
    ∷ updated 1 (key.Block slot0) 5 7
    (block_record slot0 (Some (codes "a")) (held 1 (codes "n.c1") 3 ∷ []) (2 ∷ 3 ∷ 0 ∷ []) 3)
    (Some (given (v4 1) 6 13))
    ∷ did_read 0 (name.Delete (key.Handle (codes "n.c1")) 4) (told.Conflict 6)
    ∷ get_handle 0 (codes "n.c1") (told.Found 6)
    ∷ updated 0 (key.Handle (codes "n.c1")) 6 8 (handle_of (codes "n.c1") slot0 1) (Some (answer.Deleted 1))
    ∷ [])
