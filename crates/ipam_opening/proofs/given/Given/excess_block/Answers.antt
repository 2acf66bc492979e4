use Rattle.std.proofs.Common.{◌≡◌, Some, None, sym, ap, ◌∙◌}
use Rattle.ipam_model.specs.Opened.{reading_of}
use Rattle.ipam_opening.specs.Limits.{is_block_read, left_behind}
use Rattle.ipam_opening.proofs.Steps.{block-here, block-step}
use Rattle.ipam_opening.proofs.given.Given.excess_block.Goals as goal

pub returns-in-None : goal.returns-in-None
returns-in-None c =
    let rows = c.args.self.now.rows.now in
    let row = c.at.result.0.now in
    let left = c.loop-place.left in
    let read : c.is_block_read.result ≡ is_block_read (reading_of row) = c.is_block_read.ensures ∙ ap is_block_read c.at.ensures.reading in
    let none : left_behind (is_block_read (reading_of row)) left ≡ None = ap (λ b. left_behind b left) (sym read) ∙ (sym c.left_behind.ensures ∙ c.in-None.is) in
    sym (block-here rows c.loop-place.place left row c.at.ensures.row none) ∙ c.loop-place.invariant

pub loop-place-preserved : goal.loop-place-preserved
loop-place-preserved c =
    let rows = c.args.self.now.rows.now in
    let row = c.at.result.0.now in
    let left = c.loop-place.left in
    let read : c.is_block_read.result ≡ is_block_read (reading_of row) = c.is_block_read.ensures ∙ ap is_block_read c.at.ensures.reading in
    let some : left_behind (is_block_read (reading_of row)) left ≡ Some c.in-Some.less = ap (λ b. left_behind b left) (sym read) ∙ (sym c.left_behind.ensures ∙ c.in-Some.is) in
    block-step rows c.loop-place.place left c.in-Some.less row c.at.ensures.row some ∙ c.loop-place.invariant
