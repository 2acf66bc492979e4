use Rattle.std.proofs.Common.{sym, ap, ◌∙◌}
use Rattle.ipam_laws.proofs.Members.{in-place}
use Rattle.ipam_opening.specs.Rules.{if_key}
use Rattle.ipam_opening.proofs.Found.{found-at, found-nowhere}
use Rattle.ipam_opening.proofs.given.Given.read_at.Goals as goal

pub returns-in-Some : goal.returns-in-Some
returns-in-Some c =
    let rows = c.args.self.now.rows.now in
    let row = c.at.result.0.now in
    let here = c.at.ensures.row in
    c.if_key.ensures
    ∙ (ap (if_key c.args.key.now) c.at.ensures.reading
    ∙ found-at rows c.requires.read.by_key c.args.key.now row (in-place rows c.in-Some.place row here) (c.in-Some.ensures.found row here ∙ c.requires.text))

pub returns-in-None : goal.returns-in-None
returns-in-None c = found-nowhere c.args.self.now.rows.now c.args.key.now (λ row among same. c.in-None.ensures.none row among (same ∙ sym c.requires.text))
