-- How the words `audit N` end.
use Rattle.std.specs.Prelude.{◌≡◌, ℕ, List, codes, Option}
use Rattle.ipam_records.specs.declared.call.Row.{Row as RowText}
use Rattle.ipam_records.specs.Datastore.{Datastore}
use Rattle.ipam_commands.specs.declared.status.Status.{Status}
use Rattle.ipam_commands.specs.Statuses.{code_of_status}
use Rattle.ipam_commands.specs.Telling.{AreOpened}
use Rattle.ipam_commands.specs.declared.audit_report.Report.{Report}
use Rattle.ipam_commands.specs.Reported.{report_of}

-- the exit status is that of an ending of which this is so
pub record EndsSo (code : ℕ) (so : Status → Type 0) : Type 0 where
  pub ending : Status
  pub has_code : code ≡ code_of_status ending
  pub is_so : so ending

abbrev pub unknown_line : List ℕ
unknown_line = codes "unknown words\n"

-- the report is that of the datastore as which the known rows open
pub record IsReportTold (told : Option (List RowText)) (report : Report) : Type 0 where
  pub rows : List RowText
  pub store : Datastore
  pub opened : AreOpened told rows store
  pub report_is : report ≡ report_of store
