-- A block of 4,096 addresses.
use Rattle.std.specs.Prelude.{◌≡◌, List, [], ◌∷◌, ◌++◌, Some, None, codes}
use Rattle.std.specs.List.{range_with_len}
use Rattle.ipam_addr.specs.Shape.{CidrValue}
use Rattle.ipam_block.specs.declared.state.State.TheVariants.{Pending, Confirmed}
use Rattle.ipam_records.specs.declared.key.Key.TheVariants as key
use Rattle.ipam_records.specs.declared.record.Record.TheVariants as record_of
use Rattle.ipam_model.specs.declared.entry.Entry.TheVariants as entry
use Rattle.ipam_model.specs.declared.entry.Told.TheVariants as told
use Rattle.ipam_model.specs.Course.{Event, Begin}
use Rattle.ipam_model.specs.History.{Base}
use Rattle.ipam_model.specs.Owners.{owners}
use Rattle.ipam_plain.specs.Setting.{v4, v4_range, pool, base_of, block_record, affinity_of, handle_of, held, add, add_this, turns, get_affinity, get_handle, created, updated, five_reads, given, given_this, goes, store_after_events, three_reads}

abbrev pub large : CidrValue
large = v4_range 0 20

-- the pool is one block
abbrev pub large_base : Base
large_base = base_of ((1, record_of.Pools (pool (codes "p") large 20 ∷ [])) ∷ []) 1

abbrev pub first_and_last : List Event
first_and_last =
    Begin 0 (add (codes "n.c1") (codes "a")) ∷ turns 0 17
    ++ Begin 0 (add_this (codes "n.c2") (codes "a") (v4 4095)) ∷ turns 0 6

-- It is claimed, and its first and its last address are given.
abbrev pub FirstAndLast : Type 0
FirstAndLast = goes large_base first_and_last
    (entry.Began 0 (add (codes "n.c1") (codes "a"))
    ∷ five_reads 0 0 0
    ++ get_affinity 0 (codes "a") large told.Missing
    ∷ created 0 (key.Affinity (codes "a") large) 2 (affinity_of (codes "a") large Pending) None
    ∷ created 0 (key.Block large) 3 (block_record large (Some (codes "a")) [] (range_with_len 0 4096) 0) None
    ∷ updated 0 (key.Affinity (codes "a") large) 2 4 (affinity_of (codes "a") large Confirmed) None
    ∷ five_reads 0 1 1
    ++ get_handle 0 (codes "n.c1") told.Missing
    ∷ created 0 (key.Handle (codes "n.c1")) 5 (handle_of (codes "n.c1") large 1) None
    ∷ updated 0 (key.Block large) 3 6
    (block_record large (Some (codes "a")) (held 0 (codes "n.c1") 1 ∷ []) (range_with_len 1 4095) 1)
    (Some (given (v4 0) 10 17))
    ∷ entry.Began 0 (add_this (codes "n.c2") (codes "a") (v4 4095))
    ∷ three_reads 0 told.Missing large (told.Found 6) None
    ++ get_handle 0 (codes "n.c2") told.Missing
    ∷ created 0 (key.Handle (codes "n.c2")) 7 (handle_of (codes "n.c2") large 1) None
    ∷ updated 0 (key.Block large) 6 8
    (block_record large (Some (codes "a")) (held 0 (codes "n.c1") 1 ∷ held 4095 (codes "n.c2") 2 ∷ [])
    (range_with_len 1 4094) 2)
    (Some (given_this (v4 4095) 19 24))
    ∷ [])

abbrev pub TheirOwners : Type 0
TheirOwners = owners (store_after_events large_base first_and_last)
    ≡ record { address = v4 0; handle = codes "n.c1"; stamp = 1 }
    ∷ record { address = v4 4095; handle = codes "n.c2"; stamp = 2 }
    ∷ []
