use Rattle.std.proofs.Common.{◌≡◌, ◌++◌, drop}
use Rattle.ipam_records.specs.Pages.{rows_of_pages}
use Rattle.ipam_records.specs.Listing.{rows_of}
use Rattle.ipam_store.specs.Route.{routes_of}
use Rattle.ipam_store.proofs.ring.routes_listed.Given as goal

abbrev pub invariant-loop-page : goal.invariant-loop-page
invariant-loop-page l =
    l.routes.items ++ routes_of (rows_of_pages (drop l.page-index l.page-items)) ≡ routes_of (rows_of l.affinities)
