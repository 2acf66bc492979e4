use Rattle.std.proofs.Common.{◌≡◌, true, false, Some, sym, ap, ◌∙◌, option_map, arith}
use Rattle.ipam_records.specs.declared.call.Row.{Row as RowText}
use Rattle.ipam_opening.specs.Given.{texts_given}
use Rattle.ipam_opening.specs.Rules.{breaks}
use Rattle.ipam_opening.proofs.Steps.{at-place, find-here, find-step}
use Rattle.ipam_opening.proofs.given.Given.first_row.Goals as goal

pub returns-then-branch : goal.returns-then-branch
returns-then-branch c =
    let rows = c.args.self.now.rows.now in
    let row = c.at.result.0.now in
    let test = breaks c.args.rule (texts_given c.args.self.now) in
    let fails : breaks c.args.rule (texts_given c.args.self.now) row ≡ true = sym (c.in_ok-breaks.ensures row c.at.ensures.row) ∙ c.if-branch.true in
    ap Some c.in_ok-clone.ensures.cases
    ∙ ap (option_map (λ (r : RowText). r.key)) (sym (find-here test rows c.loop-place.place row c.at.ensures.row fails) ∙ c.loop-place.invariant)

pub loop-place-preserved : goal.loop-place-preserved
loop-place-preserved c =
    let rows = c.args.self.now.rows.now in
    let test = breaks c.args.rule (texts_given c.args.self.now) in
    let (row, here) = at-place rows c.loop-place.place (omega arith) in
    let fails : breaks c.args.rule (texts_given c.args.self.now) row ≡ false = sym (c.in_ok-breaks.ensures row here) ∙ c.if-branch.false in
    find-step test rows c.loop-place.place row here fails ∙ c.loop-place.invariant
