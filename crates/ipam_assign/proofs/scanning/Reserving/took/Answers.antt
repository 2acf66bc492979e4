use Rattle.std.proofs.Common.{◌∙◌, ap}
use Rattle.std.specs.List.{list_any}
use Rattle.ipam_choice.specs.Viewed.{asked_of}
use Rattle.ipam_records.specs.Said.{said}
use Rattle.ipam_model.specs.Choice.{is_confirmed_for}
use Rattle.ipam_assign.specs.Scanning.{scanning_at}
use Rattle.ipam_assign.proofs.ScanningLemmas.{confirmed_known}
use Rattle.ipam_assign.proofs.scanning.Reserving.took.Goals as goal

pub returns : goal.returns
returns c =
    ap (scanning_at (asked_of c.args.wanted.now)) (c.confirmed-learned.ensures c.args.self.now)
    ∙ confirmed_known (asked_of c.args.wanted.now) c.args.self.now c.in_ok-confirmed.confirmed c.args.hearing.now.moment (said c.args.hearing.now.reply)
    (λ cidr. c.in_ok-confirmed.ensures cidr ∙ ap (λ rows. list_any (is_confirmed_for c.args.wanted.now.node.now cidr) rows) c.listing_in-listing.ensures)
