-- ADDs on a node whose own block is full and that may have no other.
use Rattle.std.specs.Prelude.{Bool, true, false, List, [], ◌∷◌, ◌++◌, Some, None, codes}
use Rattle.ipam_addr.specs.declared.address.Family.TheVariants.{V4}
use Rattle.ipam_addr.specs.Shape.{CidrValue}
use Rattle.ipam_block.specs.declared.state.State.TheVariants.{Confirmed}
use Rattle.ipam_records.specs.declared.key.Key.TheVariants as key
use Rattle.ipam_records.specs.declared.key.Kind.TheVariants as kind
use Rattle.ipam_records.specs.declared.record.Record.TheVariants as record_of
use Rattle.ipam_model.specs.declared.answer.Answer.TheVariants as answer
use Rattle.ipam_model.specs.declared.entry.CallName.TheVariants as name
use Rattle.ipam_model.specs.declared.entry.Entry.{Entry}
use Rattle.ipam_model.specs.declared.entry.Entry.TheVariants as entry
use Rattle.ipam_model.specs.declared.entry.Told.TheVariants as told
use Rattle.ipam_model.specs.Course.{Begin}
use Rattle.ipam_model.specs.History.{Base}
use Rattle.ipam_plain.specs.Setting.{v4, v4_range, slot0, pool_row, pool, base_of, block_record, affinity_of, handle_of, held, queue4, add, add_this, turns, did, did_read, get_handle, created, updated, scan_from, given, goes, three_reads}

-- the first of two blocks is a's and full, the second b's with its first address held
abbrev pub full : CidrValue
full = v4_range 0 31

abbrev pub with_room : CidrValue
with_room = v4_range 2 31

abbrev pub two_blocks : (strict : Bool) → Base
two_blocks strict = base_of
    ((2, record_of.Config (record { strict = strict; auto = true; max_blocks = 1 }))
    ∷ (1, record_of.Pools (pool (codes "p") (v4_range 0 30) 31 ∷ []))
    ∷ (6, block_record full (Some (codes "a")) (held 0 (codes "n.x") 1 ∷ held 1 (codes "n.x") 2 ∷ []) [] 2)
    ∷ (8, block_record with_room (Some (codes "b")) (held 0 (codes "n.y") 1 ∷ []) (1 ∷ []) 1)
    ∷ (3, affinity_of (codes "a") full Confirmed)
    ∷ (4, affinity_of (codes "b") with_room Confirmed)
    ∷ (5, handle_of (codes "n.x") full 2)
    ∷ (7, handle_of (codes "n.y") with_room 1)
    ∷ []) 8

abbrev pub read_four : List Entry
read_four =
    did_read 0 (name.Get key.Config) (told.Found 2)
    ∷ did_read 0 (name.Get key.Pools) (told.Found 1)
    ∷ did_read 0 (name.Get key.Reservations) told.Missing
    ∷ did_read 0 (name.List kind.Affinity) (told.Listed 2)
    ∷ []

abbrev pub StrictAdd : Type 0
StrictAdd = goes (two_blocks true)
    (Begin 0 (add (codes "n.c1") (codes "a")) ∷ turns 0 5)
    (entry.Began 0 (add (codes "n.c1") (codes "a"))
    ∷ read_four
    ++ did 0 (name.List kind.Block) (told.Listed 2) None (Some (answer.Exhausted (scan_from V4 1)))
    ∷ [])

-- An address of the other node's block is borrowed, and the block stays the other node's.
abbrev pub BorrowingAdd : Type 0
BorrowingAdd = goes (two_blocks false)
    (Begin 0 (add (codes "n.c1") (codes "a")) ∷ turns 0 8)
    (entry.Began 0 (add (codes "n.c1") (codes "a"))
    ∷ read_four
    ++ did_read 0 (name.List kind.Block) (told.Listed 2)
    ∷ get_handle 0 (codes "n.c1") told.Missing
    ∷ created 0 (key.Handle (codes "n.c1")) 9 (handle_of (codes "n.c1") with_room 1) None
    ∷ updated 0 (key.Block with_room) 8 10
    (block_record with_room (Some (codes "b")) (held 0 (codes "n.y") 1 ∷ held 1 (codes "n.c1") 2 ∷ []) [] 2)
    (Some (given (v4 3) 1 8))
    ∷ [])

abbrev pub StrictAddOfOne : Type 0
StrictAddOfOne = goes (two_blocks true)
    (Begin 0 (add_this (codes "n.c1") (codes "a") (v4 3)) ∷ turns 0 3)
    (entry.Began 0 (add_this (codes "n.c1") (codes "a") (v4 3))
    ∷ three_reads 0 (told.Found 2) with_room (told.Found 8) (Some (answer.NotAffine with_room 3)))

-- an empty block without affinity, where no block may be allocated
abbrev pub bare_block : Base
bare_block = base_of
    ((2, record_of.Config (record { strict = false; auto = false; max_blocks = 0 }))
    ∷ pool_row
    ∷ (3, block_record slot0 None [] queue4 1)
    ∷ []) 3

-- An address of it is borrowed, and it stays without affinity.
abbrev pub BorrowingFromNobody : Type 0
BorrowingFromNobody = goes bare_block
    (Begin 0 (add (codes "n.c1") (codes "a")) ∷ turns 0 8)
    (entry.Began 0 (add (codes "n.c1") (codes "a"))
    ∷ did_read 0 (name.Get key.Config) (told.Found 2)
    ∷ did_read 0 (name.Get key.Pools) (told.Found 1)
    ∷ did_read 0 (name.Get key.Reservations) told.Missing
    ∷ did_read 0 (name.List kind.Affinity) (told.Listed 0)
    ∷ did_read 0 (name.List kind.Block) (told.Listed 1)
    ∷ get_handle 0 (codes "n.c1") told.Missing
    ∷ created 0 (key.Handle (codes "n.c1")) 4 (handle_of (codes "n.c1") slot0 1) None
    ∷ updated 0 (key.Block slot0) 3 5
    (block_record slot0 None (held 0 (codes "n.c1") 2 ∷ []) (1 ∷ 2 ∷ 3 ∷ []) 2)
    (Some (given (v4 0) 1 8))
    ∷ [])
