use Rattle.std.proofs.Common.{◌∙◌, sym}
use Rattle.ipam_release.proofs.CheckLemmas.{found_at, not_found}
use Rattle.ipam_release.proofs.check.visit_to.Goals as goal

pub returns-in-Some : goal.returns-in-Some
returns-in-Some c =
    found_at c.args.address c.args.pools.now c.in-Some.place c.index-pools-place.result c.slot_in.result
    (sym c.place_of.ensures ∙ c.in-Some.is) c.index-pools-place.is c.slot_in.ensures

pub returns-in-None : goal.returns-in-None
returns-in-None c = not_found c.args.address c.args.pools.now (sym c.place_of.ensures ∙ c.in-None.is)
