-- What is known of a keeper in memory.
use Rattle.std.specs.Prelude.{ℕ, Bool, true, false, nat_eq, find, List, Option, Some, None, if◌then◌else◌}
use Rattle.std.specs.Option.{option_map}
use Rattle.ipam_io.specs.Counts.{next_count, is_next_listed}
use Rattle.ipam_records.specs.declared.call.Row.{Row}

-- the rows, the calls that failed, the puts and removals that were answered, and the ones that are
-- to fail: by number from 1, and whether they are done nevertheless; the settlings that were answered, the
-- numbers of those that are to fail, and whether one did
pub record MemoryState : Type 0 where
  pub rows : List Row
  pub faults : ℕ
  pub writes : ℕ
  pub failing : List (ℕ × Bool)
  pub settlings : ℕ
  pub unsettled : List ℕ
  pub is_broken : Bool

-- what is listed of a number: nothing, or whether the change is done though the call fails
abbrev pub listed_of : List (ℕ × Bool) → ℕ → Option Bool
listed_of failing number = option_map (λ entry. entry.1) (find (λ entry. nat_eq entry.0 number) failing)

-- what is to come of the call with this number: once a settling failed, each fails and does nothing
abbrev pub listed_at : MemoryState → ℕ → Option Bool
listed_at keeper number = if keeper.is_broken then Some false else listed_of keeper.failing number

-- what is to come of the next put or removal
abbrev pub next_listed : MemoryState → Option Bool
next_listed keeper = listed_at keeper (next_count keeper.writes)

-- whether the next settling is to fail
abbrev pub next_is_unsettled : MemoryState → Bool
next_is_unsettled keeper = if keeper.is_broken then true else is_next_listed keeper.unsettled keeper.settlings

-- the rows after a write, of which this is listed, where the change makes these of them
abbrev pub rows_left : Option Bool → (old changed : List Row) → List Row
rows_left None old changed = changed
rows_left (Some done) old changed = if done then changed else old

-- the keeper after a write that failed
abbrev pub after_fault : MemoryState → List Row → MemoryState
after_fault keeper changed = record keeper {
  rows = rows_left (next_listed keeper) keeper.rows changed;
  faults = next_count keeper.faults;
  writes = next_count keeper.writes;
}

-- the keeper after a write that was done
abbrev pub after_write : MemoryState → List Row → MemoryState
after_write keeper changed = record keeper { rows = changed; writes = next_count keeper.writes }

-- the keeper after a settling that was done, and after one that failed
abbrev pub after_settling : MemoryState → MemoryState
after_settling keeper = record keeper { settlings = next_count keeper.settlings }

abbrev pub after_failed_settling : MemoryState → MemoryState
after_failed_settling keeper = record keeper {
  faults = next_count keeper.faults;
  settlings = next_count keeper.settlings;
  is_broken = true;
}
