-- What `routes` writes.
use Rattle.std.specs.Prelude.{ℕ, List, Result, Ok, Err}
use Rattle.ipam_operator.specs.declared.asking.AskFault.{AskFault}
use Rattle.ipam_operator.specs.declared.end.End.{End}
use Rattle.ipam_operator.specs.declared.end.End.TheVariants as end
use Rattle.ipam_operator.specs.Telling.{fault_line, fault_end}

abbrev pub routes_said : Result (List ℕ) AskFault → List ℕ
routes_said (Ok text) = text
routes_said (Err why) = fault_line why

abbrev pub routes_end : Result (List ℕ) AskFault → End
routes_end (Ok text) = end.Done
routes_end (Err why) = fault_end why
