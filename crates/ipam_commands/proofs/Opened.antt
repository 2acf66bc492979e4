-- What is opened has few blocks.
use Rattle.std.proofs.Common.{◌≡◌, ◌≤◌, length}
use Rattle.ipam_records.specs.declared.key.Kind.TheVariants as kind
use Rattle.ipam_records.specs.Datastore.{Datastore, most_blocks, rows_of_kind}
use Rattle.ipam_model.specs.Opened.{Texts, OpensAs}
use Rattle.ipam_laws.proofs.OpenedHistory.{opened_law}
use Rattle.ipam_commands.specs.declared.audit_report.Report.{Report}
use Rattle.ipam_commands.specs.Reported.{report_of}
use Rattle.ipam_commands.specs.Parts.{IsReportOf}

pub blocks_few : (texts : Texts) (store : Datastore) → OpensAs texts store → length (rows_of_kind kind.Block store) ≤ most_blocks
blocks_few texts store opens = (opened_law texts store opens).few_blocks

-- a report on the datastore as which the rows open is one on the rows
pub reported : (texts : Texts) (store : Datastore) (report : Report) → OpensAs texts store → report ≡ report_of store → IsReportOf texts report
reported texts store report opens is = record { store = store; opens = opens; report_is = is }
