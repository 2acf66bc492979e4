use Rattle.std.proofs.Common.{◌≡◌, length, drop, ◌+◌}
use Rattle.ipam_records.specs.Pages.{rows_of_pages}
use Rattle.ipam_records.specs.Listing.{rows_of}
use Rattle.ipam_records.proofs.listing.Listing.len.Given as goal

abbrev pub invariant-loop-page : goal.invariant-loop-page
invariant-loop-page l = l.count + length (rows_of_pages (drop l.page-index l.page-items)) ≡ length (rows_of l.self)
