-- Pages that are asked for one after the other.
use Rattle.std.proofs.Common.{◌≡◌, Bool, true, false, List, [], subst, Result, Ok}
use Rattle.ipam_operator.specs.declared.asking.AskFault.{AskFault}
use Rattle.ipam_operator.specs.Asking.{Wire}
use Rattle.ipam_records.specs.declared.call.Row.{Row}
use Rattle.ipam_words.specs.declared.kind.RowKind.{RowKind}
use Rattle.ipam_operator.specs.Rows.{AsksKind, AsksPage, Last, Next}

pub asks_next : (kind : RowKind) (rows found : List Row) (more : Bool) → more ≡ true → (came : Result (List Row) AskFault) (old between new : Wire)
    → AsksPage kind rows (Ok (found, more)) old between → AsksKind kind found came between new → AsksKind kind rows came old new
asks_next kind rows found more is came old between new page asks =
    Next rows found came old between new (subst (λ (m : Bool). AsksPage kind rows (Ok (found, m)) old between) is page) asks

pub asks_last : (kind : RowKind) (rows found : List Row) (more : Bool) → more ≡ false → (old new : Wire)
    → AsksPage kind rows (Ok (found, more)) old new → AsksKind kind rows (Ok found) old new
asks_last kind rows found more is old new page =
    Last rows found old new (subst (λ (m : Bool). AsksPage kind rows (Ok (found, m)) old new) is page)

-- before the first page there are no rows
pub asks_first : (kind : RowKind) (rows : List Row) → rows ≡ [] → (came : Result (List Row) AskFault) (old new : Wire) → AsksKind kind rows came old new → AsksKind kind [] came old new
asks_first kind rows none came old new asks = subst (λ (found : List Row). AsksKind kind found came old new) none asks
