-- What `unreserve` writes.
use Rattle.std.specs.Prelude.{ℕ, ◌==◌, List, codes, Result, Ok, Err, if◌then◌else◌}
use Rattle.ipam_operator.specs.declared.asking.AskFault.{AskFault}
use Rattle.ipam_operator.specs.declared.answer.OperatorAnswer.{OperatorAnswer}
use Rattle.ipam_operator.specs.declared.answer.OperatorAnswer.TheVariants as answer
use Rattle.ipam_operator.specs.declared.end.End.{End}
use Rattle.ipam_operator.specs.declared.end.End.TheVariants as end
use Rattle.ipam_operator.specs.declared.unreserving.TheConstants.{NO_RESERVATION}
use Rattle.ipam_operator.specs.Telling.{fault_line, fault_end}

-- a refusal of this number: one alone is that of a reservation that is not there
abbrev pub refusal_line : (number : ℕ) → List ℕ
refusal_line number = if number == NO_RESERVATION then codes "no reservation\n" else codes "reply fault\n"

abbrev pub refusal_end : (number : ℕ) → End
refusal_end number = if number == NO_RESERVATION then end.Refused else end.ReplyFault

abbrev pub unreserve_line : Result OperatorAnswer AskFault → List ℕ
unreserve_line (Ok answer.Done) = codes "unreserved\n"
unreserve_line (Ok answer.Released) = codes "reply fault\n"
unreserve_line (Ok answer.NoAffinity) = codes "reply fault\n"
unreserve_line (Ok (answer.Refused number name)) = refusal_line number
unreserve_line (Ok answer.Full) = codes "full\n"
unreserve_line (Ok answer.Spent) = codes "spent\n"
unreserve_line (Ok answer.Again) = codes "try again\n"
unreserve_line (Ok answer.Fault) = codes "keeper fault\n"
unreserve_line (Err why) = fault_line why

abbrev pub unreserve_end : Result OperatorAnswer AskFault → End
unreserve_end (Ok answer.Done) = end.Done
unreserve_end (Ok answer.Released) = end.ReplyFault
unreserve_end (Ok answer.NoAffinity) = end.ReplyFault
unreserve_end (Ok (answer.Refused number name)) = refusal_end number
unreserve_end (Ok answer.Full) = end.Refused
unreserve_end (Ok answer.Spent) = end.Refused
unreserve_end (Ok answer.Again) = end.Refused
unreserve_end (Ok answer.Fault) = end.KeeperFault
unreserve_end (Err why) = fault_end why
