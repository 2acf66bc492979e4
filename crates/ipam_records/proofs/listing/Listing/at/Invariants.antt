use Rattle.std.proofs.Common.{◌≡◌, ◌<◌, length, drop, slice_get}
use Rattle.ipam_records.specs.Pages.{rows_of_pages}
use Rattle.ipam_records.specs.Listing.{rows_of}
use Rattle.ipam_records.proofs.listing.Listing.at.Given as goal

abbrev pub invariant-loop-page : goal.invariant-loop-page
invariant-loop-page l =
    (l.left < length (rows_of_pages (drop l.page-index l.page-items)))
    × (slice_get (rows_of_pages (drop l.page-index l.page-items)) l.left ≡ slice_get (rows_of l.self) l.place)
