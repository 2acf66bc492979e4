use Rattle.std.proofs.Common.{◌∙◌, ap, sym}
use Rattle.std.specs.Prelude.{if◌then◌else◌}
use Rattle.ipam_answer_text.specs.Lines.{Long, Whole}
use Rattle.ipam_play.proofs.lines.ScriptLines.wanting.Goals as goal

pub returns-then-is_long-clause-cut : goal.returns-then-is_long-clause-cut
returns-then-is_long-clause-cut c =
    let (rest, joined, end) = c.line_part.ensures.cut in
    (c.line_part.result.now, rest, sym c.held.ensures ∙ joined, end, c.line_part.ensures.no_feed, sym c.is_long.ensures ∙ c.if-is_long.true, tt)

pub returns-clause-cut : goal.returns-clause-cut
returns-clause-cut c =
    let (rest, joined, end) = c.line_part.ensures.cut in
    let short = ap (λ b. if b then Long else Whole c.line_part.result.now) (sym c.is_long.ensures ∙ c.if-is_long.false) in
    (c.line_part.result.now, rest, sym c.held.ensures ∙ joined, end, c.line_part.ensures.no_feed, tt, short)
