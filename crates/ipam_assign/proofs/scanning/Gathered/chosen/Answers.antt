use Rattle.ipam_choice.specs.Confirmed.{has_confirmed}
use Rattle.ipam_choice.specs.Known.{sight_known}
use Rattle.ipam_choice.specs.Picked.{pick_as}
use Rattle.ipam_choice.specs.Viewed.{asked_of}
use Rattle.ipam_records.specs.Listing.{rows_of}
use Rattle.ipam_records.specs.Said.{said}
use Rattle.ipam_pool.specs.Spans.{is_reserved_by}
use Rattle.ipam_assign.proofs.PickedLemmas.{pick_fits}
use Rattle.ipam_assign.proofs.scanning.Gathered.chosen.Goals as goal

pub returns-clause-fits : goal.returns-clause-fits
returns-clause-fits c = λ may.
    pick_fits (asked_of c.args.wanted.now) c.args.self.now.reserving.pooled.pools
    (sight_known (asked_of c.args.wanted.now) c.args.self.now.reserving.pooled.configured.config
    (has_confirmed c.args.self.now.confirmed) (is_reserved_by c.args.self.now.reserving.reserved) (rows_of c.listing_in.result))
    (pick_as c.pick_known.result) (said c.args.hearing.now.reply) c.pools-pools.ensures.sound may.0 c.listing_in.ensures c.pick_known.ensures
