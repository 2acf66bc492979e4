use Rattle.std.proofs.Common.{◌≡◌, ◌++◌, drop}
use Rattle.ipam_pool.specs.Spans.{is_reserved_by}
use Rattle.ipam_records.specs.Pages.{rows_of_pages}
use Rattle.ipam_show.specs.Counts.{counts_in}
use Rattle.ipam_show.proofs.counting.counts_in_pages.Given as goal

abbrev pub invariant-loop-page : goal.invariant-loop-page
invariant-loop-page l =
    l.counts.items ++ counts_in (is_reserved_by l.reserved) (rows_of_pages (drop l.page-index l.pages))
    ≡ counts_in (is_reserved_by l.reserved) (rows_of_pages l.pages)
