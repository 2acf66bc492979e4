use Rattle.std.proofs.Common.{◌∙◌}
use Rattle.ipam_store.proofs.Routes.{has_route-searched}
use Rattle.ipam_store.proofs.route.has_route.Goals as goal

pub returns : goal.returns
returns c = c.is_ok.ensures.value ∙ has_route-searched _ _ _ c.place.ensures.found c.place.ensures.absent
