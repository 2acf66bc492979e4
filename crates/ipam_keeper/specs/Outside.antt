-- What a command finds outside, and what it leaves as it was.
use Rattle.std.specs.Prelude.{◌≡◌, ℕ, List, Option, None}
use Rattle.ipam_records.specs.declared.call.Row.{Row}

-- What a command finds outside, and leaves there: the bytes that the source has left and how many of its
-- reads failed, the bytes that the sink took and how many of its writes failed, the keeper's rows and
-- how many of its calls failed.
pub record Outside : Type 0 where
  pub left : Option (List ℕ)
  pub read_faults : ℕ
  pub written : Option (List ℕ)
  pub write_faults : ℕ
  pub rows : Option (List Row)
  pub keeper_faults : ℕ

abbrev pub outside_of : (left : Option (List ℕ)) (read_faults : ℕ) (written : Option (List ℕ)) (write_faults : ℕ) (rows : Option (List Row)) (keeper_faults : ℕ) → Outside
outside_of left read_faults written write_faults rows keeper_faults = record {
  left = left;
  read_faults = read_faults;
  written = written;
  write_faults = write_faults;
  rows = rows;
  keeper_faults = keeper_faults;
}

-- the source and its count of faults are as they were
pub record LeavesSource (old new : Outside) : Type 0 where
  pub left : new.left ≡ old.left
  pub read_faults : new.read_faults ≡ old.read_faults

-- the keeper's rows and its count of faults are as they were
pub record LeavesKeeper (old new : Outside) : Type 0 where
  pub rows : new.rows ≡ old.rows
  pub keeper_faults : new.keeper_faults ≡ old.keeper_faults

-- a function that is given no source, or no sink, is the same with one of which nothing is known
abbrev pub without_source : Outside → Outside
without_source outside = record outside { left = None; read_faults = 0 }

abbrev pub without_sink : Outside → Outside
without_sink outside = record outside { written = None; write_faults = 0 }
