use Rattle.std.proofs.Common.{◌≡◌, ◌++◌, drop}
use Rattle.ipam_records.specs.Pages.{rows_of_pages}
use Rattle.ipam_commands.specs.Reported.{excess_in}
use Rattle.ipam_commands.proofs.audit_excess.excess_in.Given as goal

abbrev pub invariant-loop-page : goal.invariant-loop-page
invariant-loop-page l = l.found.items ++ excess_in l.store.store (rows_of_pages (drop l.page-index l.pages)) ≡ excess_in l.store.store (rows_of_pages l.pages)
