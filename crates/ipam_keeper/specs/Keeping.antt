-- What the calls of a keeper do to the rows that it tells, and what its faults mean.
use Rattle.std.specs.Prelude.{◌≡◌, ℕ, ◌⊎◌, ⊤, List, codes, Option, Result, Ok, Err, IfSome}
use Rattle.std.specs.Option.{option_map}
use Rattle.ipam_records.specs.declared.call.Row.{Row}
use Rattle.ipam_keeper.specs.declared.keeper.KeepFault.{KeepFault}
use Rattle.ipam_keeper.specs.declared.keeper.KeepFault.TheVariants.{Failed, Memory}
use Rattle.ipam_keeper.specs.Rows.{rows_with, rows_without}

-- what is written where a keeper failed
abbrev pub keeper_line : List ℕ
keeper_line = codes "keeper fault\n"

-- what a keeper is given: a row to put in, or the key of one to take out
pub data KeeperChange : Type 0 where
  PutIn : Row → KeeperChange
  TakeOut : (key : List ℕ) → KeeperChange

-- the rows are these, where they are known
abbrev pub IsTold : Option (List Row) → List Row → Type 0
IsTold known rows = IfSome known (λ told. rows ≡ told)

-- the rows after a put and after a removal, where they are known
abbrev pub known_with : Row → Option (List Row) → Option (List Row)
known_with row = option_map (rows_with row)

abbrev pub known_without : List ℕ → Option (List Row) → Option (List Row)
known_without key = option_map (rows_without key)

-- the rows are as they were, or as a change leaves them
abbrev pub IsOldOrNew : (old changed new : Option (List Row)) → Type 0
IsOldOrNew old changed new = (new ≡ old) ⊎ (new ≡ changed)

-- the sure rows are as they were, or all rows are sure
abbrev pub SettlesOrNot : (old new rows : Option (List Row)) → Type 0
SettlesOrNot old new rows = (new ≡ old) ⊎ (new ≡ rows)

-- a call of a keeper that is out of order fails, and leaves it so
abbrev pub StaysBroken : {T : Type 0} → (before : Type 0) → Result T KeepFault → (after : Type 0) → Type 0
StaysBroken before result after = before → (result ≡ Err Failed) × after

-- a fact of a call that failed, and of one that found no memory
abbrev pub OnFailed : {T : Type 0} → Result T KeepFault → Type 0 → Type 0
OnFailed (Ok value) p = ⊤
OnFailed (Err Failed) p = p
OnFailed (Err Memory) p = ⊤

abbrev pub OnMemory : {T : Type 0} → Result T KeepFault → Type 0 → Type 0
OnMemory (Ok value) p = ⊤
OnMemory (Err Failed) p = ⊤
OnMemory (Err Memory) p = p

-- a fact of a call that did not fail
abbrev pub UnlessFailed : {T : Type 0} → Result T KeepFault → Type 0 → Type 0
UnlessFailed (Ok value) p = p
UnlessFailed (Err Failed) p = ⊤
UnlessFailed (Err Memory) p = p
