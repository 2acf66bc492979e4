-- What is looked up, and what an audit answers.
use Rattle.std.specs.Prelude.{◌≡◌, Option, Some, None}
use Rattle.ipam_records.specs.declared.record.Record.TheVariants as record_of
use Rattle.ipam_records.specs.Datastore.{Datastore}
use Rattle.ipam_block.specs.Shape.{BlockValue}
use Rattle.ipam_model.specs.Reads.{StoredRecord}
use Rattle.ipam_model.specs.Opened.{Texts, OpensAs}
use Rattle.ipam_commands.specs.declared.audit_report.Report.{Report}
use Rattle.ipam_commands.specs.Reported.{report_of}

-- the block of a row
abbrev pub block_in_row : Option StoredRecord → Option BlockValue
block_in_row (Some (revision, record_of.Block b)) = Some b
block_in_row _ = None

-- the report is that of the datastore as which the rows open
pub record IsReportOf (texts : Texts) (report : Report) : Type 0 where
  pub store : Datastore
  pub opens : OpensAs texts store
  pub report_is : report ≡ report_of store
