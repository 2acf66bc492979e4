-- What `release` writes.
use Rattle.std.specs.Prelude.{ℕ, List, codes, Result, Ok, Err}
use Rattle.ipam_operator.specs.declared.asking.AskFault.{AskFault}
use Rattle.ipam_operator.specs.declared.answer.OperatorAnswer.{OperatorAnswer}
use Rattle.ipam_operator.specs.declared.answer.OperatorAnswer.TheVariants as answer
use Rattle.ipam_operator.specs.declared.end.End.{End}
use Rattle.ipam_operator.specs.declared.end.End.TheVariants as end
use Rattle.ipam_operator.specs.Telling.{fault_line, fault_end}

abbrev pub release_line : Result OperatorAnswer AskFault → List ℕ
release_line (Ok answer.Done) = codes "reply fault\n"
release_line (Ok answer.Released) = codes "released\n"
release_line (Ok answer.NoAffinity) = codes "no affinity\n"
release_line (Ok (answer.Refused number name)) = codes "reply fault\n"
release_line (Ok answer.Full) = codes "full\n"
release_line (Ok answer.Spent) = codes "spent\n"
release_line (Ok answer.Again) = codes "try again\n"
release_line (Ok answer.Fault) = codes "keeper fault\n"
release_line (Err why) = fault_line why

abbrev pub release_end : Result OperatorAnswer AskFault → End
release_end (Ok answer.Done) = end.ReplyFault
release_end (Ok answer.Released) = end.Done
release_end (Ok answer.NoAffinity) = end.Refused
release_end (Ok (answer.Refused number name)) = end.ReplyFault
release_end (Ok answer.Full) = end.Refused
release_end (Ok answer.Spent) = end.Refused
release_end (Ok answer.Again) = end.Refused
release_end (Ok answer.Fault) = end.KeeperFault
release_end (Err why) = fault_end why
