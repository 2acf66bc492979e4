-- What `show` asks for and writes.
use Rattle.std.specs.Prelude.{ℕ, List, [], ◌∷◌, codes, Option, Some, None, Result, Ok, Err}
use Rattle.ipam_views.specs.Shown.{shown_text}
use Rattle.ipam_operator.specs.declared.asking.AskFault.{AskFault}
use Rattle.ipam_operator.specs.declared.end.End.{End}
use Rattle.ipam_operator.specs.declared.end.End.TheVariants as end
use Rattle.ipam_operator.specs.Telling.{fault_end, fault_line}
use Rattle.ipam_records.specs.declared.call.Row.{Row}
use Rattle.ipam_records.specs.Datastore.{Datastore}
use Rattle.ipam_words.specs.declared.kind.RowKind.{RowKind}
use Rattle.ipam_words.specs.declared.kind.RowKind.TheVariants.{Config, Pools, Reservations, Block, Affinity, Handle}
use Rattle.ipam_words.specs.Views.{AskedView}
use Rattle.ipam_words.specs.Views as seen
use Rattle.ipam_operator.specs.Datastore.{datastore_of}

-- the kinds of which something is shown, which are asked for
abbrev pub kinds_shown : AskedView → List RowKind
kinds_shown (seen.Handle handle form) = Block ∷ Handle ∷ []
kinds_shown (seen.Config form) = Config ∷ []
kinds_shown seen.Metrics = Config ∷ Pools ∷ Reservations ∷ Block ∷ Affinity ∷ Handle ∷ []
kinds_shown _ = Pools ∷ Reservations ∷ Block ∷ Affinity ∷ []

-- what is written of the datastore of the rows; rows of none are no reply
abbrev pub said_of : AskedView → Option Datastore → List ℕ
said_of seen (Some store) = shown_text seen store
said_of seen None = codes "reply fault\n"

abbrev pub end_of : Option Datastore → End
end_of (Some store) = end.Done
end_of None = end.ReplyFault

abbrev pub show_said : AskedView → Result (List Row) AskFault → List ℕ
show_said seen (Ok rows) = said_of seen (datastore_of rows)
show_said seen (Err why) = fault_line why

abbrev pub show_end : Result (List Row) AskFault → End
show_end (Ok rows) = end_of (datastore_of rows)
show_end (Err why) = fault_end why
