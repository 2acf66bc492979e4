-- An ADD of both families.
use Rattle.std.specs.Prelude.{◌≡◌, ℕ, ◌*◌, ◌^◌, true, false, List, [], ◌∷◌, ◌++◌, Some, None, codes}
use Rattle.ipam_addr.specs.declared.address.Family.TheVariants.{V6}
use Rattle.ipam_addr.specs.Shape.{AddrValue, CidrValue}
use Rattle.ipam_block.specs.declared.state.State.TheVariants.{Confirmed}
use Rattle.ipam_records.specs.declared.key.Key.TheVariants as key
use Rattle.ipam_records.specs.declared.record.Record.{Record}
use Rattle.ipam_records.specs.declared.record.Record.TheVariants as record_of
use Rattle.ipam_model.specs.declared.answer.Answer.TheVariants as answer
use Rattle.ipam_model.specs.declared.entry.CallName.TheVariants as name
use Rattle.ipam_model.specs.declared.entry.Entry.TheVariants as entry
use Rattle.ipam_model.specs.declared.entry.Told.TheVariants as told
use Rattle.ipam_model.specs.declared.request.Request.{Request}
use Rattle.ipam_model.specs.declared.request.Request.TheVariants.{Add, Del}
use Rattle.ipam_model.specs.Course.{Event, Begin}
use Rattle.ipam_model.specs.History.{Base}
use Rattle.ipam_model.specs.Owners.{owners}
use Rattle.ipam_model.specs.Reads.{StoredRecord}
use Rattle.ipam_plain.specs.Setting.{v4, v4_range, slot0, pool, ready_base, base_of, block_record, affinity_of, handle_of, queue4, held, add_request, add_this, turns, did, get_block, get_handle, created, updated, five_reads, scan_from, given, given_this, goes, store_after_events, first_given, first_freed, three_reads}

abbrev pub add_both : Request
add_both = Add (record (add_request (codes "n.c1") (codes "a")) { ipv6 = true })

abbrev pub both : List Event
both = Begin 0 add_both ∷ turns 0 17

-- There is no IPv6 pool, so the IPv4 address is freed again.
abbrev pub SecondFamilyExhausted : Type 0
SecondFamilyExhausted = goes ready_base both
    (entry.Began 0 add_both
    ∷ five_reads 0 1 1
    ++ first_given 0 None
    ++ five_reads 0 1 1
    ++ first_freed 0 (answer.Exhausted (scan_from V6 9)))

abbrev pub NoOwnerIsLeft : Type 0
NoOwnerIsLeft = owners (store_after_events ready_base both) ≡ []

-- Between the two families the address is freed and given to the same handle again, so there is
-- nothing of this request to be freed.
abbrev pub GivenAgainBeforeTheSecond : Type 0
GivenAgainBeforeTheSecond = goes ready_base
    (Begin 0 add_both ∷ turns 0 8
    ++ Begin 1 (Del (codes "n.c1")) ∷ turns 1 5
    ++ Begin 1 (add_this (codes "n.c1") (codes "a") (v4 0)) ∷ turns 1 6
    ++ turns 0 6)
    (entry.Began 0 add_both
    ∷ five_reads 0 1 1
    ++ first_given 0 None
    ++ entry.Began 1 (Del (codes "n.c1"))
    ∷ get_handle 1 (codes "n.c1") (told.Found 4)
    ∷ first_freed 1 (answer.Deleted 10)
    ++ entry.Began 1 (add_this (codes "n.c1") (codes "a") (v4 0))
    ∷ three_reads 1 told.Missing slot0 (told.Found 6) None
    ++ get_handle 1 (codes "n.c1") told.Missing
    ∷ created 1 (key.Handle (codes "n.c1")) 8 (handle_of (codes "n.c1") slot0 1) None
    ∷ updated 1 (key.Block slot0) 6 9
    (block_record slot0 (Some (codes "a")) (held 0 (codes "n.c1") 3 ∷ []) (1 ∷ 2 ∷ 3 ∷ []) 3)
    (Some (given_this (v4 0) 16 21))
    ∷ five_reads 0 1 1
    ++ did 0 (name.Get (key.Block slot0)) (told.Found 9) None (Some (answer.Exhausted (scan_from V6 22)))
    ∷ [])

-- ---- a second family that ends otherwise

abbrev pub add_unknown : Request
add_unknown = Add (record (add_request (codes "n.c1") (codes "a")) { ipv6 = true; pools6 = codes "x" ∷ [] })

-- No IPv6 pool has the name, so the IPv4 address is freed again.
abbrev pub SecondFamilyUnknown : Type 0
SecondFamilyUnknown = goes ready_base
    (Begin 0 add_unknown ∷ turns 0 17)
    (entry.Began 0 add_unknown
    ∷ five_reads 0 1 1
    ++ first_given 0 None
    ++ five_reads 0 1 1
    ++ first_freed 0 (answer.NoPool (codes "x") 10))

-- ---- IPv6

abbrev pub v6_range : (prefix : ℕ) → CidrValue
v6_range prefix = record { family = V6; base = 64768 * 2 ^ 112; prefix = prefix }

-- fd00::
abbrev pub v6_first : AddrValue
v6_first = record { family = V6; number = 64768 * 2 ^ 112 }

abbrev pub slot6 : CidrValue
slot6 = v6_range 126

-- a pool of each family
abbrev pub both_pools : StoredRecord
both_pools = (1, record_of.Pools (pool (codes "p") (v4_range 0 29) 30 ∷ pool (codes "q") (v6_range 122) 126 ∷ []))

-- the first block of each is confirmed to the node a and empty
abbrev pub both_rows : List StoredRecord
both_rows =
    both_pools
    ∷ (3, block_record slot0 (Some (codes "a")) [] queue4 0)
    ∷ (6, block_record slot6 (Some (codes "a")) [] queue4 0)
    ∷ (2, affinity_of (codes "a") slot0 Confirmed)
    ∷ (5, affinity_of (codes "a") slot6 Confirmed)
    ∷ []

abbrev pub both_base : Base
both_base = base_of both_rows 6

abbrev pub add_v6 : Request
add_v6 = Add (record (add_request (codes "n.c1") (codes "a")) { ipv4 = false; ipv6 = true })

abbrev pub Ipv6Given : Type 0
Ipv6Given = goes both_base
    (Begin 0 add_v6 ∷ turns 0 8)
    (entry.Began 0 add_v6
    ∷ five_reads 0 2 2
    ++ get_handle 0 (codes "n.c1") told.Missing
    ∷ created 0 (key.Handle (codes "n.c1")) 7 (handle_of (codes "n.c1") slot6 1) None
    ∷ updated 0 (key.Block slot6) 6 8
    (block_record slot6 (Some (codes "a")) (held 0 (codes "n.c1") 1 ∷ []) (1 ∷ 2 ∷ 3 ∷ []) 1)
    (Some (given v6_first 1 8))
    ∷ [])

-- a handle with a count of a block of each family
abbrev pub handle_of_both : (four six : ℕ) → Record
handle_of_both four six = record_of.Handle (record { id = codes "n.c1"; counts = (slot0, four) ∷ (slot6, six) ∷ [] })

-- an address of each, IPv4 first
abbrev pub BothGiven : Type 0
BothGiven = goes both_base
    (Begin 0 add_both ∷ turns 0 16)
    (entry.Began 0 add_both
    ∷ five_reads 0 2 2
    ++ get_handle 0 (codes "n.c1") told.Missing
    ∷ created 0 (key.Handle (codes "n.c1")) 7 (handle_of (codes "n.c1") slot0 1) None
    ∷ updated 0 (key.Block slot0) 3 8
    (block_record slot0 (Some (codes "a")) (held 0 (codes "n.c1") 1 ∷ []) (1 ∷ 2 ∷ 3 ∷ []) 1) None
    ∷ five_reads 0 2 2
    ++ get_handle 0 (codes "n.c1") (told.Found 7)
    ∷ updated 0 (key.Handle (codes "n.c1")) 7 9 (handle_of_both 1 1) None
    ∷ updated 0 (key.Block slot6) 6 10
    (block_record slot6 (Some (codes "a")) (held 0 (codes "n.c1") 1 ∷ []) (1 ∷ 2 ∷ 3 ∷ []) 1)
    (Some (answer.Added
    (record { address = v4 0; c = 1; p = 2; r = 3; f = 4; b = 5; w = 8 }
    ∷ record { address = v6_first; c = 9; p = 10; r = 11; f = 12; b = 13; w = 16 }
    ∷ [])))
    ∷ [])

-- The handle's count of the IPv6 block is at its limit, so the IPv4 address is freed again.
abbrev pub SecondCountFull : Type 0
SecondCountFull = goes
    (base_of
    (both_rows ++ (4, handle_of (codes "n.c1") slot6 4294967295) ∷ []) 6)
    (Begin 0 add_both ∷ turns 0 18)
    (entry.Began 0 add_both
    ∷ five_reads 0 2 2
    ++ get_handle 0 (codes "n.c1") (told.Found 4)
    ∷ updated 0 (key.Handle (codes "n.c1")) 4 7 (handle_of_both 1 4294967295) None
    ∷ updated 0 (key.Block slot0) 3 8
    (block_record slot0 (Some (codes "a")) (held 0 (codes "n.c1") 1 ∷ []) (1 ∷ 2 ∷ 3 ∷ []) 1) None
    ∷ five_reads 0 2 2
    ++ get_handle 0 (codes "n.c1") (told.Found 7)
    ∷ get_block 0 slot0 (told.Found 8)
    ∷ updated 0 (key.Block slot0) 8 9 (block_record slot0 (Some (codes "a")) [] (1 ∷ 2 ∷ 3 ∷ 0 ∷ []) 2) None
    ∷ get_handle 0 (codes "n.c1") (told.Found 7)
    ∷ updated 0 (key.Handle (codes "n.c1")) 7 10 (handle_of (codes "n.c1") slot6 4294967295)
    (Some (answer.CountFull 14))
    ∷ [])
