use Rattle.std.proofs.Common.{◌≡◌, drop}
use Rattle.ipam_records.specs.Pages.{rows_of_pages}
use Rattle.ipam_session.specs.Page.{so_far, taken_from}
use Rattle.ipam_session.proofs.taken.take_pages.Given as goal

abbrev pub invariant-loop-page : goal.invariant-loop-page
invariant-loop-page l =
    taken_from l.after (so_far l.taken) (rows_of_pages (drop l.page-index l.pages))
    ≡ taken_from l.after (so_far l.initial.taken) (rows_of_pages l.pages)
