use Rattle.std.proofs.Common.{◌≡◌, ◌++◌, drop}
use Rattle.ipam_records.specs.Pages.{rows_of_pages}
use Rattle.ipam_words.specs.Views.{chosen_by}
use Rattle.ipam_show.specs.InUse.{uses_in}
use Rattle.ipam_show.proofs.in_use.uses_in_pages.Given as goal

abbrev pub invariant-loop-page : goal.invariant-loop-page
invariant-loop-page l =
    l.uses.items ++ uses_in (chosen_by l.chosen) (rows_of_pages (drop l.page-index l.pages))
    ≡ uses_in (chosen_by l.chosen) (rows_of_pages l.pages)
