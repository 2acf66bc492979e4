-- What an audit asks for, and what it finds in the rows that come.
use Rattle.std.specs.Prelude.{◌≡◌, List, [], ◌∷◌, Option, Some, None, option_map, Result, Ok, Err}
use Rattle.ipam_operator.specs.Rows.{AsksRows}
use Rattle.ipam_operator.specs.Datastore.{datastore_of}
use Rattle.ipam_commands.specs.declared.audit_report.Report.{Report}
use Rattle.ipam_commands.specs.Reported.{report_of}
use Rattle.ipam_operator.specs.declared.asking.AskFault.{AskFault}
use Rattle.ipam_operator.specs.declared.asking.AskFault.TheVariants as fault
use Rattle.ipam_operator.specs.Asking.{Wire}
use Rattle.ipam_records.specs.declared.call.Row.{Row}
use Rattle.ipam_records.specs.Datastore.{Datastore}
use Rattle.ipam_words.specs.declared.kind.RowKind.{RowKind}
use Rattle.ipam_words.specs.declared.kind.RowKind.TheVariants.{Handle, Block, Affinity}
use Rattle.ipam_operator.specs.Standing.{standing}

-- the kinds that are asked for: a report tells nothing of the others
abbrev pub kinds_audited : List RowKind
kinds_audited = Handle ∷ Block ∷ Affinity ∷ []

-- The report is that of the datastore of the rows. Rows of none are no reply, and there may be no memory.
abbrev pub IsReportOn : Result Report AskFault → Option Datastore → Type 0
IsReportOn (Ok report) store = option_map report_of store ≡ Some report
IsReportOn (Err fault.Link) store = ⊥
IsReportOn (Err fault.Reply) store = store ≡ None
IsReportOn (Err fault.Memory) store = Unit {0}

-- What came of one look: the rows came, and this of them; or a fault in place of the rows.
pub data Looks : Result Report AskFault → (old new : Wire) → Type 0 where
  Came : (rows : List Row) (found : Result Report AskFault) (old new : Wire) → AsksRows kinds_audited [] (Ok rows) old new
      → IsReportOn found (datastore_of rows) → Looks found old new
  Unasked : (why : AskFault) (old new : Wire) → AsksRows kinds_audited [] (Err why) old new → Looks (Err why) old new

-- What came of another look: what stands in its report and in this one; or a fault.
pub data LooksAgain (first : Report) : Result Report AskFault → (old new : Wire) → Type 0 where
  Stands : (second report : Report) (old new : Wire) → Looks (Ok second) old new → report ≡ standing first second → LooksAgain first (Ok report) old new
  NoneAgain : (why : AskFault) (old new : Wire) → Looks (Err why) old new → LooksAgain first (Err why) old new

-- What came of two looks, one after the other: what stands in both reports; or the first fault.
pub data LooksTwice : Result Report AskFault → (old new : Wire) → Type 0 where
  First : (first : Report) (came : Result Report AskFault) (old between new : Wire) → Looks (Ok first) old between
      → LooksAgain first came between new → LooksTwice came old new
  NoneFirst : (why : AskFault) (old new : Wire) → Looks (Err why) old new → LooksTwice (Err why) old new
