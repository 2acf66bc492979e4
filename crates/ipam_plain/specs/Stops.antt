-- Calls that fail, stops and restarts.
use Rattle.std.specs.Prelude.{◌≡◌, List, [], ◌∷◌, ◌++◌, Some, None, codes}
use Rattle.ipam_block.specs.declared.state.State.TheVariants.{Confirmed}
use Rattle.ipam_records.specs.declared.key.Key.TheVariants as key
use Rattle.ipam_model.specs.declared.answer.Answer.TheVariants as answer
use Rattle.ipam_model.specs.declared.entry.CallName.TheVariants as name
use Rattle.ipam_model.specs.declared.entry.Entry.{Entry}
use Rattle.ipam_model.specs.declared.entry.Entry.TheVariants as entry
use Rattle.ipam_model.specs.declared.entry.Fate.TheVariants.{Before, After}
use Rattle.ipam_model.specs.declared.entry.Told.TheVariants as told
use Rattle.ipam_model.specs.declared.request.Request.TheVariants.{Del}
use Rattle.ipam_model.specs.Course.{Event, Begin, Turn, Stop, Restart}
use Rattle.ipam_plain.specs.Setting.{slot0, pool_row, ready_base, block_record, affinity_of, handle_of, held, add, turns, did, get_handle, created, five_reads, goes, store_after_events, first_freed}

-- an ADD up to its write of the block
abbrev pub before_the_write : List Event
before_the_write = Begin 0 (add (codes "n.c1") (codes "a")) ∷ turns 0 7

abbrev pub entries_before : List Entry
entries_before =
    entry.Began 0 (add (codes "n.c1") (codes "a"))
    ∷ five_reads 0 1 1
    ++ get_handle 0 (codes "n.c1") told.Missing
    ∷ created 0 (key.Handle (codes "n.c1")) 4 (handle_of (codes "n.c1") slot0 1) None
    ∷ []

-- ---- an answer that is lost

abbrev pub lost_answer : List Event
lost_answer = before_the_write ++ Turn 0 After ∷ Begin 0 (Del (codes "n.c1")) ∷ turns 0 5

-- The write is done but its answer fails, so the ADD ends in a fault. A DEL frees the address, which
-- goes to the back of the queue.
abbrev pub LostAnswer : Type 0
LostAnswer = goes ready_base lost_answer
    (entries_before
    ++ entry.Called (record {
      slot = 0;
      call = name.Update (key.Block slot0) 3;
      fate = After;
      reply = told.Done 5;
      written = Some (block_record slot0 (Some (codes "a")) (held 0 (codes "n.c1") 1 ∷ []) (1 ∷ 2 ∷ 3 ∷ []) 1);
      answer = Some answer.Fault;
    })
    ∷ entry.Began 0 (Del (codes "n.c1"))
    ∷ get_handle 0 (codes "n.c1") (told.Found 4)
    ∷ first_freed 0 (answer.Deleted 10))

abbrev pub LostAnswerRows : Type 0
LostAnswerRows = store_after_events ready_base lost_answer ≡ record {
  rows =
      pool_row
      ∷ (6, block_record slot0 (Some (codes "a")) [] (1 ∷ 2 ∷ 3 ∷ 0 ∷ []) 2)
      ∷ (2, affinity_of (codes "a") slot0 Confirmed)
      ∷ [];
  counter = 7;
}

-- ---- a call that is not done

abbrev pub failed_write : List Event
failed_write = before_the_write ++ Turn 0 Before ∷ []

-- Nothing is written, and the ADD ends in a fault.
abbrev pub FailedWrite : Type 0
FailedWrite = goes ready_base failed_write
    (entries_before
    ++ entry.Called (record {
      slot = 0;
      call = name.Update (key.Block slot0) 3;
      fate = Before;
      reply = told.Nothing;
      written = None;
      answer = Some answer.Fault;
    })
    ∷ [])

-- the rows once the count is raised and the block is not written
abbrev pub RowsWithCount : List Event → Type 0
RowsWithCount events = store_after_events ready_base events ≡ record {
  rows =
      pool_row
      ∷ (3, block_record slot0 (Some (codes "a")) [] (0 ∷ 1 ∷ 2 ∷ 3 ∷ []) 0)
      ∷ (2, affinity_of (codes "a") slot0 Confirmed)
      ∷ (4, handle_of (codes "n.c1") slot0 1)
      ∷ [];
  counter = 4;
}

abbrev pub FailedWriteRows : Type 0
FailedWriteRows = RowsWithCount failed_write

-- ---- a stop

abbrev pub stopped_add : List Event
stopped_add = before_the_write ++ Stop 0 ∷ Begin 0 (Del (codes "n.c1")) ∷ turns 0 2

abbrev pub entries_of_stopped : List Entry
entries_of_stopped =
    entries_before
    ++ entry.Stopped 0
    ∷ entry.Began 0 (Del (codes "n.c1"))
    ∷ get_handle 0 (codes "n.c1") (told.Found 4)
    ∷ did 0 (name.Get (key.Block slot0)) (told.Found 3) None (Some (answer.Deleted 10))
    ∷ []

-- A DEL finds no address of the handle in the block, and writes nothing.
abbrev pub StoppedAdd : Type 0
StoppedAdd = goes ready_base stopped_add entries_of_stopped

-- So the handle's count stays.
abbrev pub StoppedAddRows : Type 0
StoppedAddRows = RowsWithCount stopped_add

-- ---- restarts

-- where all slots are idle there is no entry
abbrev pub RestartOfIdle : Type 0
RestartOfIdle = goes ready_base (stopped_add ++ Restart ∷ []) entries_of_stopped

-- else one for each slot that is not, in their order, and then all are idle
abbrev pub RestartOfBusy : Type 0
RestartOfBusy = goes ready_base
    (Begin 63 (Del (codes "n.c3")) ∷ Begin 2 (Del (codes "n.c2")) ∷ Begin 0 (Del (codes "n.c1"))
    ∷ turns 0 1 ++ Restart ∷ Restart ∷ Begin 63 (Del (codes "n.c3")) ∷ [])
    (entry.Began 63 (Del (codes "n.c3"))
    ∷ entry.Began 2 (Del (codes "n.c2"))
    ∷ entry.Began 0 (Del (codes "n.c1"))
    ∷ did 0 (name.Get (key.Handle (codes "n.c1"))) told.Missing None (Some (answer.Deleted 3))
    ∷ entry.Stopped 2
    ∷ entry.Stopped 63
    ∷ entry.Began 63 (Del (codes "n.c3"))
    ∷ [])
