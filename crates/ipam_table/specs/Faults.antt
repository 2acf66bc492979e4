-- What a keeper answers of what its table did.
use Rattle.std.specs.Prelude.{◌≡◌, ⊤, Option, Some, None, IsSome, List, Result, Ok, Err}
use Rattle.ipam_records.specs.declared.call.Row.{Row}
use Rattle.ipam_keeper.specs.declared.keeper.KeepFault.{KeepFault}
use Rattle.ipam_keeper.specs.declared.keeper.KeepFault.TheVariants as kept
use Rattle.ipam_table.specs.declared.fault.TableFault.{TableFault}
use Rattle.ipam_table.specs.declared.fault.TableFault.TheVariants.{Memory, Failed}
use Rattle.ipam_table.specs.TableState.{TableState, rows_of, sure_of}

-- want of memory stays want of memory, and every other cause is a failure
abbrev pub answer_of : {V C : Type 0} → Result V (TableFault C) → Result V KeepFault
answer_of (Ok value) = Ok value
answer_of (Err Memory) = Err kept.Memory
answer_of (Err (Failed cause)) = Err kept.Failed

-- facts of a call that failed for a cause, and of one that found no memory
abbrev pub OnCause : {V C : Type 0} → Result V (TableFault C) → Type 0 → Type 0
OnCause (Ok value) p = ⊤
OnCause (Err Memory) p = ⊤
OnCause (Err (Failed cause)) p = p

abbrev pub OnNoMemory : {V C : Type 0} → Result V (TableFault C) → Type 0 → Type 0
OnNoMemory (Ok value) p = ⊤
OnNoMemory (Err Memory) p = p
OnNoMemory (Err (Failed cause)) p = ⊤

-- where it is out of order, a call fails for that cause, and it stays so
abbrev pub StaysOut : {V C : Type 0} → (old : Option C) → Result V (TableFault C) → (new : Option C) → Type 0
StaysOut {V} {C} old result new = (cause : C) → old ≡ Some cause → (result ≡ Err (Failed cause)) × (new ≡ Some cause)

-- ---- of what was opened or not: its rows, the sure ones, and whether it is out of order
abbrev pub rows_in : {B F : Type 0} → (B → Option TableState) → Result B F → Option (List Row)
rows_in told (Ok batch) = rows_of (told batch)
rows_in told (Err fault) = None

abbrev pub sure_in : {B F : Type 0} → (B → Option TableState) → Result B F → Option (List Row)
sure_in told (Ok batch) = sure_of (told batch)
sure_in told (Err fault) = None

abbrev pub IsOutIn : {B C : Type 0} → (B → Option C) → Result B (TableFault C) → Type 0
IsOutIn out (Ok batch) = IsSome (out batch)
IsOutIn out (Err Memory) = ⊥
IsOutIn out (Err (Failed cause)) = ⊤
