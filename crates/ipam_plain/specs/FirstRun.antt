-- ADDs in one ready block.
use Rattle.std.specs.Prelude.{◌≡◌, ℕ, List, [], ◌∷◌, ◌++◌, Some, None, codes}
use Rattle.ipam_addr.specs.declared.address.Family.TheVariants.{V4}
use Rattle.ipam_block.specs.declared.state.State.TheVariants.{Confirmed}
use Rattle.ipam_records.specs.declared.key.Key.TheVariants as key
use Rattle.ipam_records.specs.declared.key.Kind.TheVariants as kind
use Rattle.ipam_records.specs.declared.record.Record.TheVariants as record_of
use Rattle.ipam_model.specs.declared.answer.Answer.TheVariants as answer
use Rattle.ipam_model.specs.declared.entry.CallName.TheVariants as name
use Rattle.ipam_model.specs.declared.entry.Entry.{Entry}
use Rattle.ipam_model.specs.declared.entry.Entry.TheVariants as entry
use Rattle.ipam_model.specs.declared.entry.Told.TheVariants as told
use Rattle.ipam_model.specs.Course.{Event, Begin, Idle}
use Rattle.ipam_model.specs.History.{Base}
use Rattle.ipam_plain.specs.Setting.{v4, slot0, ready_base, base_of, pool, block_record, affinity_of, held, queue4, add, turns, did, updated, five_reads, scan_from, given, goes, stops, run, excerpt, first_given}

abbrev pub first_entries : List Entry
first_entries =
    entry.Began 0 (add (codes "n.c1") (codes "a"))
    ∷ five_reads 0 1 1
    ++ first_given 0 (Some (given (v4 0) 1 8))

-- The ADD takes the first address of the node's own block.
abbrev pub FirstRun : Type 0
FirstRun = goes ready_base (Begin 0 (add (codes "n.c1") (codes "a")) ∷ turns 0 8) first_entries

-- Once it is answered its slot is idle, so a ninth call is refused.
abbrev pub NinthCall : Type 0
NinthCall = stops ready_base (Begin 0 (add (codes "n.c1") (codes "a")) ∷ turns 0 9) first_entries Idle

-- ---- a pool of four addresses

abbrev pub small_base : Base
small_base = base_of
    ((1, record_of.Pools (pool (codes "p") slot0 30 ∷ []))
    ∷ (3, block_record slot0 (Some (codes "a")) [] queue4 0)
    ∷ (2, affinity_of (codes "a") slot0 Confirmed)
    ∷ []) 3

abbrev pub added : (id : List ℕ) → List Event
added id = Begin 0 (add id (codes "a")) ∷ turns 0 8

-- each of four ADDs is given the next address, and a fifth finds none
abbrev pub FifthExhausted : Type 0
FifthExhausted =
    excerpt (8 ∷ 17 ∷ 26 ∷ 35 ∷ 41 ∷ [])
    (run small_base
    (added (codes "n.c1") ++ added (codes "n.c2") ++ added (codes "n.c3") ++ added (codes "n.c4")
    ++ Begin 0 (add (codes "n.c5") (codes "a")) ∷ turns 0 5))
    ≡ record {
      entries =
          Some (updated 0 (key.Block slot0) 3 5
          (block_record slot0 (Some (codes "a")) (held 0 (codes "n.c1") 1 ∷ []) (1 ∷ 2 ∷ 3 ∷ []) 1)
          (Some (given (v4 0) 1 8)))
          ∷ Some (updated 0 (key.Block slot0) 5 7
          (block_record slot0 (Some (codes "a")) (held 0 (codes "n.c1") 1 ∷ held 1 (codes "n.c2") 2 ∷ [])
          (2 ∷ 3 ∷ []) 2)
          (Some (given (v4 1) 10 17)))
          ∷ Some (updated 0 (key.Block slot0) 7 9
          (block_record slot0 (Some (codes "a"))
          (held 0 (codes "n.c1") 1 ∷ held 1 (codes "n.c2") 2 ∷ held 2 (codes "n.c3") 3 ∷ []) (3 ∷ []) 3)
          (Some (given (v4 2) 19 26)))
          ∷ Some (updated 0 (key.Block slot0) 9 11
          (block_record slot0 (Some (codes "a"))
          (held 0 (codes "n.c1") 1 ∷ held 1 (codes "n.c2") 2 ∷ held 2 (codes "n.c3") 3
          ∷ held 3 (codes "n.c4") 4 ∷ []) [] 4)
          (Some (given (v4 3) 28 35)))
          ∷ Some (did 0 (name.List kind.Block) (told.Listed 1) None (Some (answer.Exhausted (scan_from V4 37))))
          ∷ [];
      count = 42;
      refused = None;
    }
