-- All rows of some kinds, as they are asked for: of one kind after the other, page by page.
use Rattle.std.specs.Prelude.{Bool, true, false, List, [], ◌∷◌, ◌++◌, Result, Ok, Err}
use Rattle.ipam_operator.specs.declared.asking.AskFault.{AskFault}
use Rattle.ipam_operator.specs.declared.asking.AskFault.TheVariants.{Memory}
use Rattle.ipam_operator.specs.Asking.{Asks, Wire}
use Rattle.ipam_records.specs.declared.call.Row.{Row}
use Rattle.ipam_words.specs.declared.kind.RowKind.{RowKind}
use Rattle.ipam_operator.specs.Page.{page_line, page_of_line}

-- What came of asking for one page behind these rows: all rows so far, and whether there are more.
abbrev pub AsksPage : RowKind → (rows : List Row) → Result (List Row × Bool) AskFault → (old new : Wire) → Type 0
AsksPage kind rows came old new = Asks (page_of_line kind rows) (page_line kind rows) came old new

-- What came of asking for the rows of a kind, of which these came before: each page is asked for behind the
-- last key of the one before it, up to one behind which there are no more, or to the first fault.
pub data AsksKind (kind : RowKind) : (rows : List Row) → Result (List Row) AskFault → (old new : Wire) → Type 0 where
  Last : (rows found : List Row) (old new : Wire) → AsksPage kind rows (Ok (found, false)) old new → AsksKind kind rows (Ok found) old new
  Next : (rows found : List Row) (came : Result (List Row) AskFault) (old between new : Wire) → AsksPage kind rows (Ok (found, true)) old between
      → AsksKind kind found came between new → AsksKind kind rows came old new
  NoPage : (rows : List Row) (why : AskFault) (old new : Wire) → AsksPage kind rows (Err why) old new → AsksKind kind rows (Err why) old new

-- What came of asking for the rows of these kinds, with those that came before: all of them, or the first
-- fault. There may be no memory to keep the rows of a kind with the others.
pub data AsksRows : List RowKind → (rows : List Row) → Result (List Row) AskFault → (old new : Wire) → Type 0 where
  Whole : (rows : List Row) (old : Wire) → AsksRows [] rows (Ok rows) old old
  More : (kind : RowKind) (kinds : List RowKind) (rows found : List Row) (came : Result (List Row) AskFault) (old between new : Wire)
      → AsksKind kind [] (Ok found) old between → AsksRows kinds (rows ++ found) came between new → AsksRows (kind ∷ kinds) rows came old new
  Ended : (kind : RowKind) (kinds : List RowKind) (rows : List Row) (why : AskFault) (old new : Wire)
      → AsksKind kind [] (Err why) old new → AsksRows (kind ∷ kinds) rows (Err why) old new
  NoRoom : (kind : RowKind) (kinds : List RowKind) (rows found : List Row) (old new : Wire)
      → AsksKind kind [] (Ok found) old new → AsksRows (kind ∷ kinds) rows (Err Memory) old new
