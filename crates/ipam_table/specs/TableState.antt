-- What is so of a table, and what its statements do to that.
use Rattle.std.specs.Prelude.{◌≡◌, ◌⊎◌, ⊤, Bool, true, false, List, Option, IfSome, Result, Ok, Err}
use Rattle.std.specs.Option.{option_map}
use Rattle.ipam_records.specs.declared.call.Row.{Row}
use Rattle.ipam_table.specs.declared.fault.TableFault.{TableFault}
use Rattle.ipam_table.specs.declared.fault.TableFault.TheVariants.{Memory, Failed}
use Rattle.ipam_table.specs.declared.transaction.Transaction.{Transaction}
use Rattle.ipam_table.specs.declared.transaction.Transaction.TheVariants.{Absent, Begun, Changed, TakenBack}

-- The rows with all changes that were made, also those of the transaction, and those that were taken back with one; the
-- rows that outlast a crash, unless a later call makes others sure; how far the transaction is; and whether the files
-- were found in place since something was last put into them.
pub record TableState : Type 0 where
  pub rows : List Row
  pub sure : List Row
  pub transaction : Transaction
  pub is_seen : Bool

-- the rows and the sure rows, where the table tells them
abbrev pub rows_of : Option TableState → Option (List Row)
rows_of = option_map (λ state. state.rows)

abbrev pub sure_of : Option TableState → Option (List Row)
sure_of = option_map (λ state. state.sure)

-- ---- what a transaction becomes by a change, and where it is taken back
abbrev pub changing : Transaction → Transaction
changing Absent = Absent
changing Begun = Changed
changing Changed = Changed
changing TakenBack = TakenBack

abbrev pub taking_back : Transaction → Transaction
taking_back Absent = Absent
taking_back Begun = Absent
taking_back Changed = TakenBack
taking_back TakenBack = TakenBack

-- whether none is under way
abbrev pub is_alone : Transaction → Bool
is_alone Absent = true
is_alone Begun = false
is_alone Changed = false
is_alone TakenBack = true

-- outside of a transaction all rows that were written are sure once the files were found in place
abbrev pub sure_rows : Transaction → (rows sure : List Row) → List Row
sure_rows Absent rows sure = rows
sure_rows Begun rows sure = sure
sure_rows Changed rows sure = sure
sure_rows TakenBack rows sure = sure

-- outside of a transaction a change that failed may be done
abbrev pub doubted_rows : Transaction → (rows changed : List Row) → List Row
doubted_rows Absent rows changed = changed
doubted_rows Begun rows changed = rows
doubted_rows Changed rows changed = rows
doubted_rows TakenBack rows changed = rows

-- ---- the table after each call
abbrev pub after_look : TableState → TableState
after_look state = record state { sure = sure_rows state.transaction state.rows state.sure; is_seen = true }

abbrev pub after_begin : TableState → TableState
after_begin state = record state { transaction = Begun }

abbrev pub after_change : (List Row → List Row) → TableState → TableState
after_change change state = record state {
  rows = change state.rows;
  transaction = changing state.transaction;
  is_seen = false;
}

abbrev pub after_doubted : (List Row → List Row) → TableState → TableState
after_doubted change state = record state {
  rows = doubted_rows state.transaction state.rows (change state.rows);
  is_seen = false;
}

abbrev pub after_commit : TableState → TableState
after_commit state = record state { transaction = Absent; is_seen = false }

-- a commit that failed may be done, and its transaction is over
abbrev pub after_failed_commit : TableState → TableState
after_failed_commit state = record state { sure = state.rows; transaction = TakenBack; is_seen = false }

abbrev pub taken_back : TableState → TableState
taken_back state = record state { transaction = taking_back state.transaction; is_seen = false }

-- ---- what a call that failed leaves
-- all is as it was, or the transaction was taken back
abbrev pub IsKeptOrTakenBack : (old new : Option TableState) → Type 0
IsKeptOrTakenBack old new = (new ≡ old) ⊎ (new ≡ option_map taken_back old)

-- Within a transaction a change that failed is not made. Outside of one it may be, unless there was no memory.
abbrev pub FailsToChange : {C : Type 0} → (List Row → List Row) → Result (Unit {0}) (TableFault C) → (old new : Option TableState) → Type 0
FailsToChange change (Ok done) old new = ⊤
FailsToChange change (Err Memory) old new = IsKeptOrTakenBack old new
FailsToChange change (Err (Failed cause)) old new = IsKeptOrTakenBack old new ⊎ (new ≡ option_map (after_doubted change) old)

-- a commit that failed may be done, unless there was no memory
abbrev pub FailsToCommit : {C : Type 0} → Result (Unit {0}) (TableFault C) → (old new : Option TableState) → Type 0
FailsToCommit (Ok done) old new = ⊤
FailsToCommit (Err Memory) old new = IsKeptOrTakenBack old new
FailsToCommit (Err (Failed cause)) old new = IsKeptOrTakenBack old new ⊎ (new ≡ option_map after_failed_commit old)

-- ---- what a call asks
-- the files were found in place, and nothing was put into them since
abbrev pub IsSeen : Option TableState → Type 0
IsSeen told = IfSome told (λ state. state.is_seen ≡ true)

-- before a change outside of a transaction the files were found in place
abbrev pub IsSeenIfAlone : Option TableState → Type 0
IsSeenIfAlone told = IfSome told (λ state. is_alone state.transaction ≡ true → state.is_seen ≡ true)

-- whether no transaction is under way
abbrev pub IsAlone : Option TableState → Bool → Type 0
IsAlone told answer = IfSome told (λ state. answer ≡ is_alone state.transaction)

-- no row is another, and none is sure that was not
pub record IsGivenUp (old new : Option TableState) : Type 0 where
  pub rows : rows_of new ≡ rows_of old
  pub sure : sure_of new ≡ sure_of old
