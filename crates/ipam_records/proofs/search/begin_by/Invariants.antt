use Rattle.std.proofs.Common.{◌≡◌, drop}
use Rattle.ipam_records.specs.KeyRef.{owned_key}
use Rattle.ipam_records.specs.Pages.{rows_of_pages}
use Rattle.ipam_records.specs.Places.{begins_by}
use Rattle.ipam_records.proofs.search.begin_by.Given as goal

abbrev pub invariant-loop-page : goal.invariant-loop-page
invariant-loop-page l =
    begins_by (owned_key l.key) (rows_of_pages (drop l.page-index l.pages)) ≡ begins_by (owned_key l.key) (rows_of_pages l.pages)
