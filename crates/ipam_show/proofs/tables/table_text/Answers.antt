use Rattle.std.proofs.Common.{◌++◌, ◌∙◌, ap, refl}
use Rattle.std.specs.String.{string_bytes}
use Rattle.ipam_show.specs.Columns.{line, lines}
use Rattle.ipam_show.proofs.Steps.{step_list}
use Rattle.ipam_show.proofs.tables.table_text.Goals as goal

pub loop-row-preserved : goal.loop-row-preserved
loop-row-preserved c =
    let l = c.loop-row in
    let widths = c.in_ok-widths.widths.items in
    let all = lines widths c.args.rows.now in
    step_list (lines widths) (line widths) (λ x xs. refl) c.args.rows.now l.row-index c.row-item.result c.row-item.is c.loop-row-test.true (string_bytes l.text) (string_bytes c.push_line.new.text) all l.invariant (c.in_ok-push_line.ensures ∙ ap (λ all. string_bytes l.text ++ line all c.row-item.result) c.deref.ensures.value)
