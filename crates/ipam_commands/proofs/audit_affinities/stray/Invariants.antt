use Rattle.std.proofs.Common.{◌≡◌, ◌++◌, drop}
use Rattle.ipam_records.specs.declared.key.Kind.TheVariants as kind
use Rattle.ipam_records.specs.Datastore.{rows_of_kind}
use Rattle.ipam_records.specs.Pages.{rows_of_pages}
use Rattle.ipam_commands.specs.Reported.{stray_in}
use Rattle.ipam_commands.proofs.audit_affinities.stray.Given as goal

abbrev pub invariant-loop-page : goal.invariant-loop-page
invariant-loop-page l = l.found.items ++ stray_in l.store.store (rows_of_pages (drop l.page-index l.page-items)) ≡ stray_in l.store.store (rows_of_kind kind.Affinity l.store.store)
