use Rattle.std.proofs.Common.{◌≡◌, ◌++◌, drop}
use Rattle.ipam_records.specs.Listing.{rows_of}
use Rattle.ipam_records.specs.Pages.{rows_of_pages}
use Rattle.ipam_model.specs.Remove.{suspects}
use Rattle.ipam_collect.proofs.suspects.suspects_in.Given as goal

abbrev pub invariant-loop-page : goal.invariant-loop-page
invariant-loop-page l =
    l.found ++ suspects l.request (rows_of_pages (drop l.page-index l.page-items)) ≡ suspects l.request (rows_of l.listing)
