use Rattle.std.proofs.Common.{◌≡◌, ◌||◌, drop}
use Rattle.std.specs.List.{list_any}
use Rattle.ipam_addr.specs.Shape.{CidrValue}
use Rattle.ipam_model.specs.Choice.{is_confirmed_for}
use Rattle.ipam_choice.specs.Confirmed.{has_confirmed}
use Rattle.ipam_choice.proofs.confirmed.Confirmed.add_page.Given as goal

abbrev pub invariant-loop-row : goal.invariant-loop-row
invariant-loop-row l = (cidr : CidrValue)
    → (has_confirmed l.self cidr || list_any (is_confirmed_for l.node cidr) (drop l.row-index l.page))
    ≡ (has_confirmed l.fn.self cidr || list_any (is_confirmed_for l.node cidr) l.page)
