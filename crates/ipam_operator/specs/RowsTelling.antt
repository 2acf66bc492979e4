-- What an audit over a daemon writes.
use Rattle.std.specs.Prelude.{ℕ, List, Result, Ok, Err}
use Rattle.ipam_commands.specs.declared.audit_report.Report.{Report}
use Rattle.ipam_commands.specs.Printed.{report_text}
use Rattle.ipam_operator.specs.declared.asking.AskFault.{AskFault}
use Rattle.ipam_operator.specs.declared.asking.AskFault.TheVariants as fault
use Rattle.ipam_operator.specs.declared.end.End.{End}
use Rattle.ipam_operator.specs.declared.end.End.TheVariants as end
use Rattle.ipam_operator.specs.Telling.{fault_end, fault_line}

abbrev pub audit_said : Result Report AskFault → List ℕ
audit_said (Ok report) = report_text report
audit_said (Err why) = fault_line why

abbrev pub audit_end : Result Report AskFault → End
audit_end (Ok report) = end.Done
audit_end (Err why) = fault_end why

-- the text of a report takes memory; `link fault` and `reply fault` take none
abbrev pub ReportTakesMemory : Result Report AskFault → Type 0
ReportTakesMemory (Ok report) = Unit {0}
ReportTakesMemory (Err fault.Link) = ⊥
ReportTakesMemory (Err fault.Reply) = ⊥
ReportTakesMemory (Err fault.Memory) = Unit {0}
