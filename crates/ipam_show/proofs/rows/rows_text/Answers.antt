use Rattle.std.proofs.Common.{[], ◌++◌, ◌∙◌, ap, sym, refl, append-nil, if◌then◌else◌}
use Rattle.std.specs.String.{string_bytes}
use Rattle.ipam_show.specs.Rows.{is_told, row_line, rows_text}
use Rattle.ipam_show.proofs.Steps.{step_list}
use Rattle.ipam_show.proofs.rows.rows_text.Goals as goal
use Rattle.ipam_show.proofs.rows.rows_text.Goals.{then-is_told+in_ok-push_row, else-is_told}

pub loop-row-preserved : goal.loop-row-preserved
loop-row-preserved c =
    let l = c.loop-row in
    let row = c.row-item.result in
    let found = string_bytes l.text in
    let rows = c.args.rows.now in
    let next = step_list (rows_text c.args.kind) (λ r. if is_told c.args.kind r.key then row_line r else []) (λ x xs. refl) rows l.row-index row c.row-item.is c.loop-row-test.true found (string_bytes c.if-is_told.text) (rows_text c.args.kind rows) l.invariant in
    elim c.if-is_told.branch [
      | then-is_told+in_ok-push_row w ↦
          let told = sym (c.is_told.ensures ∙ ap (is_told c.args.kind) c.as_str.ensures) ∙ w.if-is_told.true in
          next (ap string_bytes w.text-is ∙ w.in_ok-push_row.ensures ∙ ap (λ b. found ++ (if b then row_line row else [])) (sym told))
      | else-is_told w ↦
          let told = sym (c.is_told.ensures ∙ ap (is_told c.args.kind) c.as_str.ensures) ∙ w.if-is_told.false in
          next (ap string_bytes w.text-is ∙ sym (append-nil found) ∙ ap (λ b. found ++ (if b then row_line row else [])) (sym told))
    ]
