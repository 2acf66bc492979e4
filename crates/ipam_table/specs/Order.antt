-- When a table and the flag of its unsettled changes fit each other.
use Rattle.std.specs.Prelude.{◌≡◌, Bool, true, false, Option, Some, None, IfSome}
use Rattle.ipam_table.specs.declared.transaction.Transaction.{Transaction}
use Rattle.ipam_table.specs.declared.transaction.Transaction.TheVariants.{Absent, Begun, Changed, TakenBack}
use Rattle.ipam_table.specs.TableState.{TableState, rows_of, sure_of, is_alone}

-- whether changes are unsettled exactly where the transaction has some
abbrev pub fits : (has_unsettled : Bool) → Transaction → Bool
fits true Absent = false
fits true Begun = false
fits true Changed = true
fits true TakenBack = false
fits false Absent = true
fits false Begun = true
fits false Changed = false
fits false TakenBack = false

abbrev pub is_fit : (has_unsettled : Bool) → Option TableState → Bool
is_fit has_unsettled None = true
is_fit has_unsettled (Some state) = fits has_unsettled state.transaction

-- whether that is so, or the transaction that has them was taken back
abbrev pub left_fits : (has_unsettled : Bool) → Transaction → Bool
left_fits true Absent = true
left_fits true Begun = false
left_fits true Changed = true
left_fits true TakenBack = true
left_fits false Absent = true
left_fits false Begun = true
left_fits false Changed = false
left_fits false TakenBack = false

abbrev pub is_left_fit : (has_unsettled : Bool) → Option TableState → Bool
is_left_fit has_unsettled None = true
is_left_fit has_unsettled (Some state) = left_fits has_unsettled state.transaction

-- unless it is out of order, changes are unsettled exactly where the transaction has some
abbrev pub IsFit : {C : Type 0} → (out : Option C) → (has_unsettled : Bool) → Option TableState → Type 0
IsFit out has_unsettled told = out ≡ None → is_fit has_unsettled told ≡ true

-- unless it is out of order, all rows are sure where nothing is unsettled
abbrev pub IsSureUnlessUnsettled : {C : Type 0} → (out : Option C) → (has_unsettled : Bool) → Option TableState → Type 0
IsSureUnlessUnsettled out has_unsettled told = out ≡ None → has_unsettled ≡ false → sure_of told ≡ rows_of told

-- nothing was done with the table yet: no transaction is under way, and all rows are sure
abbrev pub IsFresh : Option TableState → Type 0
IsFresh told = IfSome told (λ state. (state.transaction ≡ Absent) × (state.sure ≡ state.rows))

-- a transaction is under way that a change may be made in
abbrev pub IsWithin : Option TableState → Type 0
IsWithin told = IfSome told (λ state. is_alone state.transaction ≡ false)

-- no transaction is under way, and none was taken back
abbrev pub IsOutside : Option TableState → Type 0
IsOutside told = IfSome told (λ state. state.transaction ≡ Absent)
