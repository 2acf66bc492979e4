use Rattle.std.proofs.Common.{◌≡◌, drop}
use Rattle.ipam_records.specs.Pages.{rows_of_pages}
use Rattle.ipam_show.specs.Address.{held_in}
use Rattle.ipam_show.proofs.address_shown.held_in.Given as goal

abbrev pub invariant-loop-page : goal.invariant-loop-page
invariant-loop-page l = held_in l.addr (rows_of_pages (drop l.page-index l.pages)) ≡ held_in l.addr (rows_of_pages l.pages)
