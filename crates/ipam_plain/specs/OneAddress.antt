-- ADDs of one address.
use Rattle.std.specs.Prelude.{true, false, [], ◌∷◌, ◌++◌, Some, None, codes}
use Rattle.ipam_block.specs.declared.state.State.TheVariants.{Pending, Confirmed}
use Rattle.ipam_records.specs.declared.key.Key.TheVariants as key
use Rattle.ipam_records.specs.declared.record.Record.TheVariants as record_of
use Rattle.ipam_model.specs.declared.answer.Answer.TheVariants as answer
use Rattle.ipam_model.specs.declared.entry.CallName.TheVariants as name
use Rattle.ipam_model.specs.declared.entry.Entry.TheVariants as entry
use Rattle.ipam_model.specs.declared.entry.Told.TheVariants as told
use Rattle.ipam_model.specs.Course.{Begin}
use Rattle.ipam_model.specs.History.{Base}
use Rattle.ipam_model.specs.Reads.{StoredRecord}
use Rattle.ipam_plain.specs.Setting.{v4, slot0, slot1, pool_row, held_base, base_of, block_record, affinity_of, handle_of, held, queue4, add_this, turns, did, did_read, get_affinity, get_handle, created, updated, given_this, goes, three_reads, second_given}

-- the address is held, and the answer names the holder
abbrev pub TakenAddress : Type 0
TakenAddress = goes held_base
    (Begin 0 (add_this (codes "n.c2") (codes "a") (v4 0)) ∷ turns 0 3)
    (entry.Began 0 (add_this (codes "n.c2") (codes "a") (v4 0))
    ∷ three_reads 0 told.Missing slot0 (told.Found 3) (Some (answer.Taken (codes "n.c1") 3)))

abbrev pub AddressInNoPool : Type 0
AddressInNoPool = goes held_base
    (Begin 0 (add_this (codes "n.c2") (codes "a") (v4 8)) ∷ turns 0 2)
    (entry.Began 0 (add_this (codes "n.c2") (codes "a") (v4 8))
    ∷ did_read 0 (name.Get key.Config) told.Missing
    ∷ did 0 (name.Get key.Pools) (told.Found 1) None (Some (answer.NotInPool 2))
    ∷ [])

-- the whole of the node's block is reserved
abbrev pub reserved_base : Base
reserved_base = base_of
    (pool_row
    ∷ (4, record_of.Reservations (record { name = codes "r"; cidrs = slot0 ∷ [] } ∷ []))
    ∷ (3, block_record slot0 (Some (codes "a")) [] queue4 0)
    ∷ (2, affinity_of (codes "a") slot0 Confirmed)
    ∷ []) 4

-- reservations don't count for an address that is asked for
abbrev pub ReservedAddress : Type 0
ReservedAddress = goes reserved_base
    (Begin 0 (add_this (codes "n.c1") (codes "a") (v4 1)) ∷ turns 0 6)
    (entry.Began 0 (add_this (codes "n.c1") (codes "a") (v4 1))
    ∷ three_reads 0 told.Missing slot0 (told.Found 3) None
    ++ second_given 0 (codes "n.c1") 5 (given_this (v4 1) 1 6))

-- the node has its one block, and none may be allocated
abbrev pub bounded_base : Base
bounded_base = base_of
    ((4, record_of.Config (record { strict = true; auto = false; max_blocks = 1 }))
    ∷ pool_row
    ∷ (3, block_record slot0 (Some (codes "a")) [] queue4 0)
    ∷ (2, affinity_of (codes "a") slot0 Confirmed)
    ∷ []) 4

-- a block that is missing is claimed for the address all the same
abbrev pub ClaimedForOneAddress : Type 0
ClaimedForOneAddress = goes bounded_base
    (Begin 0 (add_this (codes "n.c1") (codes "a") (v4 5)) ∷ turns 0 13)
    (entry.Began 0 (add_this (codes "n.c1") (codes "a") (v4 5))
    ∷ three_reads 0 (told.Found 4) slot1 told.Missing None
    ++ get_affinity 0 (codes "a") slot1 told.Missing
    ∷ created 0 (key.Affinity (codes "a") slot1) 5 (affinity_of (codes "a") slot1 Pending) None
    ∷ created 0 (key.Block slot1) 6 (block_record slot1 (Some (codes "a")) [] queue4 0) None
    ∷ updated 0 (key.Affinity (codes "a") slot1) 5 7 (affinity_of (codes "a") slot1 Confirmed) None
    ∷ three_reads 0 (told.Found 4) slot1 (told.Found 6) None
    ++ get_handle 0 (codes "n.c1") told.Missing
    ∷ created 0 (key.Handle (codes "n.c1")) 8 (handle_of (codes "n.c1") slot1 1) None
    ∷ updated 0 (key.Block slot1) 6 9
    (block_record slot1 (Some (codes "a")) (held 1 (codes "n.c1") 1 ∷ []) (0 ∷ 2 ∷ 3 ∷ []) 1)
    (Some (given_this (v4 5) 8 13))
    ∷ [])

-- the first block is nobody's, and affinity is strict
abbrev pub strict_config : StoredRecord
strict_config = (2, record_of.Config (record { strict = true; auto = true; max_blocks = 0 }))

abbrev pub nobodys_base : Base
nobodys_base = base_of (strict_config ∷ pool_row ∷ (3, block_record slot0 None [] queue4 1) ∷ []) 3

-- where it is empty it is claimed
abbrev pub ClaimedFromNobody : Type 0
ClaimedFromNobody = goes nobodys_base
    (Begin 0 (add_this (codes "n.c1") (codes "a") (v4 1)) ∷ turns 0 13)
    (entry.Began 0 (add_this (codes "n.c1") (codes "a") (v4 1))
    ∷ three_reads 0 (told.Found 2) slot0 (told.Found 3) None
    ++ get_affinity 0 (codes "a") slot0 told.Missing
    ∷ created 0 (key.Affinity (codes "a") slot0) 4 (affinity_of (codes "a") slot0 Pending) None
    ∷ updated 0 (key.Block slot0) 3 5 (block_record slot0 (Some (codes "a")) [] queue4 2) None
    ∷ updated 0 (key.Affinity (codes "a") slot0) 4 6 (affinity_of (codes "a") slot0 Confirmed) None
    ∷ three_reads 0 (told.Found 2) slot0 (told.Found 5) None
    ++ get_handle 0 (codes "n.c1") told.Missing
    ∷ created 0 (key.Handle (codes "n.c1")) 7 (handle_of (codes "n.c1") slot0 1) None
    ∷ updated 0 (key.Block slot0) 5 8
    (block_record slot0 (Some (codes "a")) (held 1 (codes "n.c1") 3 ∷ []) (0 ∷ 2 ∷ 3 ∷ []) 3)
    (Some (given_this (v4 1) 8 13))
    ∷ [])

abbrev pub nobodys_held_base : Base
nobodys_held_base = base_of
    (strict_config
    ∷ pool_row
    ∷ (3, block_record slot0 None (held 0 (codes "n.x") 1 ∷ []) (1 ∷ 2 ∷ 3 ∷ []) 2)
    ∷ (4, handle_of (codes "n.x") slot0 1)
    ∷ []) 4

-- nobody's block, in which an address is held, is not the node's where affinity is strict
abbrev pub NobodysIsNotAffine : Type 0
NobodysIsNotAffine = goes nobodys_held_base
    (Begin 0 (add_this (codes "n.c1") (codes "a") (v4 1)) ∷ turns 0 3)
    (entry.Began 0 (add_this (codes "n.c1") (codes "a") (v4 1))
    ∷ three_reads 0 (told.Found 2) slot0 (told.Found 3) (Some (answer.NotAffine slot0 3)))
