-- What becomes of a new database, and what is written.
use Rattle.std.specs.Prelude.{◌≡◌, ℕ, List, ◌++◌, codes, decimal, length, Option, Some, None, Result, Ok, Err}
use Rattle.ipam_io.specs.Counts.{Rose}
use Rattle.ipam_keeper.specs.Keeping.{IsTold, keeper_line}
use Rattle.ipam_operator.specs.declared.asking.AskFault.{AskFault}
use Rattle.ipam_operator.specs.declared.asking.AskFault.TheVariants as fault
use Rattle.ipam_operator.specs.declared.end.End.{End}
use Rattle.ipam_operator.specs.declared.end.End.TheVariants as end
use Rattle.ipam_operator.specs.Telling.{Says, WritesText, fault_end, fault_line}
use Rattle.ipam_records.specs.declared.call.Row.{Row}
use Rattle.ipam_operator.specs.Filling.{filled}

-- what there is of the new database and of the sink
pub record DatabaseAndSink : Type 0 where
  -- the rows, and those that are sure, where they are known
  pub rows : Option (List Row)
  pub settled : Option (List Row)
  pub faults : ℕ
  -- the bytes that the sink took
  pub written : Option (List ℕ)
  pub write_faults : ℕ

unfoldable pub saved_line : (count : ℕ) → List ℕ
saved_line count = codes "saved " ++ (decimal count ++ codes " rows\n")

abbrev pub busy_line : List ℕ
busy_line = codes "datastore busy\n"

-- the database is as it was, and no call of it failed
pub record IsUntouched (old new : DatabaseAndSink) : Type 0 where
  pub rows : new.rows ≡ old.rows
  pub settled : new.settled ≡ old.settled
  pub faults : new.faults ≡ old.faults

abbrev pub BackupWrites : (old new : DatabaseAndSink) (text : List ℕ) (own last : End) → Type 0
BackupWrites old new text own last = WritesText old.written new.written old.write_faults new.write_faults text own last

-- These rows are put into the database, after the last one all of its rows are made sure, and it is closed, which is
-- `closed`; then their number is written, which takes memory. Or the database failed; or there was no memory.
pub data BacksUp (closed : Type 0) (rows : List Row) (old new : DatabaseAndSink) (last : End) : Type 0 where
  Saved : closed → new.rows ≡ filled rows old.rows → new.settled ≡ new.rows → new.faults ≡ old.faults
      → Says (Unit {0}) old.written new.written old.write_faults new.write_faults (saved_line (length rows)) end.Done last → BacksUp closed rows old new last
  Failed : Rose old.faults new.faults → BackupWrites old new keeper_line end.KeeperFault last → BacksUp closed rows old new last
  NoRoom : new.faults ≡ old.faults → new.written ≡ old.written → new.write_faults ≡ old.write_faults → last ≡ end.NoMemory → BacksUp closed rows old new last

-- What comes of what the daemon told: its rows are put in; or it changed each time; or there was no reply. Only
-- in the first case is anything put in.
abbrev pub BacksUpAsked : (closed : Type 0) → Result (Option (List Row)) AskFault → (old new : DatabaseAndSink) → (last : End) → Type 0
BacksUpAsked closed (Ok (Some rows)) old new last = BacksUp closed rows old new last
BacksUpAsked closed (Ok None) old new last = IsUntouched old new × BackupWrites old new busy_line end.Refused last
BacksUpAsked closed (Err why) old new last =
    IsUntouched old new × Says (why ≡ fault.Memory) old.written new.written old.write_faults new.write_faults (fault_line why) (fault_end why) last

-- What comes of what a keeper has: its rows are put in; or it failed; or there was no memory.
pub data BacksUpKept (closed : Type 0) (told : Option (List Row)) (faults faults' : ℕ) (old new : DatabaseAndSink) (last : End) : Type 0 where
  Loaded : (rows : List Row) → IsTold told rows → faults' ≡ faults → BacksUp closed rows old new last → BacksUpKept closed told faults faults' old new last
  LoadFailed : Rose faults faults' → IsUntouched old new → BackupWrites old new keeper_line end.KeeperFault last → BacksUpKept closed told faults faults' old new last
  Unloaded : faults' ≡ faults → IsUntouched old new → new.written ≡ old.written → new.write_faults ≡ old.write_faults → last ≡ end.NoMemory
      → BacksUpKept closed told faults faults' old new last
