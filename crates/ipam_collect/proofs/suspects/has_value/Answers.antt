use Rattle.std.proofs.Common.{◌∙◌, sym}
use Rattle.ipam_collect.proofs.SuspectLemmas.{value_found, no_value}
use Rattle.ipam_collect.proofs.suspects.has_value.Goals as goal

pub returns-in-Some : goal.returns-in-Some
returns-in-Some c =
    c.is_text.ensures
    ∙ value_found c.args.pairs.now c.args.key.now c.args.value.now c.in-Some.place c.index-pairs-place.result
    (sym c.place_of.ensures ∙ c.in-Some.is)

pub returns-in-None : goal.returns-in-None
returns-in-None c = no_value c.args.pairs.now c.args.key.now c.args.value.now (sym c.place_of.ensures ∙ c.in-None.is)
