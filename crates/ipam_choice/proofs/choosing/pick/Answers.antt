use Rattle.std.proofs.Common.{◌∙◌}
use Rattle.ipam_pool.specs.Spans.{is_reserved_by}
use Rattle.ipam_choice.specs.Confirmed.{has_confirmed}
use Rattle.ipam_choice.specs.Viewed.{asked_of, seen_of}
use Rattle.ipam_choice.proofs.PickLemmas.{known_pick}
use Rattle.ipam_choice.proofs.choosing.pick.Goals as goal

pub returns : goal.returns
returns c reservations all =
    c.pick_known.ensures
    ∙ known_pick (asked_of c.args.wanted.now) (seen_of c.args.view.now reservations)
    (has_confirmed c.in_ok-confirmed.confirmed) (is_reserved_by c.args.view.now.reserved.now) c.in_ok-confirmed.ensures all
