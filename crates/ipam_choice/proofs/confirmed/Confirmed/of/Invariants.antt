use Rattle.std.proofs.Common.{◌≡◌, ◌||◌, drop}
use Rattle.std.specs.List.{list_any}
use Rattle.ipam_addr.specs.Shape.{CidrValue}
use Rattle.ipam_records.specs.Pages.{rows_of_pages}
use Rattle.ipam_records.specs.Listing.{rows_of}
use Rattle.ipam_model.specs.Choice.{is_confirmed_for}
use Rattle.ipam_choice.specs.Confirmed.{has_confirmed}
use Rattle.ipam_choice.proofs.confirmed.Confirmed.of.Given as goal

abbrev pub invariant-loop-page : goal.invariant-loop-page
invariant-loop-page l = (cidr : CidrValue)
    → (has_confirmed l.confirmed cidr || list_any (is_confirmed_for l.node cidr) (rows_of_pages (drop l.page-index l.page-items)))
    ≡ list_any (is_confirmed_for l.node cidr) (rows_of l.affinities)
