-- What is known of each fake: its bytes, its counts and the calls that are to fail.
use Rattle.std.specs.Prelude.{ℕ, List, Bool, take, if◌then◌else◌}

-- a source in memory: the bytes left, the reads that failed, the reads made, the reads that are to fail
pub record MemorySourceValue : Type 0 where
  pub left : List ℕ
  pub faults : ℕ
  pub calls : ℕ
  pub failing : List ℕ

-- a sink in memory: the bytes written, how many it takes in all, and its writes as a source's reads
pub record MemorySinkValue : Type 0 where
  pub written : List ℕ
  pub room : ℕ
  pub faults : ℕ
  pub calls : ℕ
  pub failing : List ℕ

-- both ends of a link in memory, whose reads and writes are counted together
pub record MemoryLinkValue : Type 0 where
  pub left : List ℕ
  pub written : List ℕ
  pub room : ℕ
  pub read_faults : ℕ
  pub write_faults : ℕ
  pub calls : ℕ
  pub failing : List ℕ

-- a gate with a list: its passes, those at a turn, those that were stopped, and those that are to be
pub record ListGateValue : Type 0 where
  pub stops : ℕ
  pub turns : ℕ
  pub calls : ℕ
  pub stopping : List ℕ

-- a clock with a list: the readings that it has not given yet, and the one that it gives after them
pub record ListClockValue : Type 0 where
  pub left : List ℕ
  pub last : ℕ

-- what a write appends of its piece: nothing where it is listed to fail, and else what fits
abbrev pub accepted_part : Bool → ℕ → List ℕ → List ℕ
accepted_part listed room_left piece = take (if listed then 0 else room_left) piece
