use Rattle.std.proofs.Common.{◌≡◌, ◌+◌, length, drop}
use Rattle.ipam_records.specs.Pages.{rows_of_pages}
use Rattle.ipam_model.specs.Owners.{owners_in}
use Rattle.ipam_commands.proofs.audit_counted.owners_in.Given as goal

abbrev pub invariant-loop-page : goal.invariant-loop-page
invariant-loop-page l = l.count + length (owners_in (rows_of_pages (drop l.page-index l.pages))) ≡ length (owners_in (rows_of_pages l.pages))
