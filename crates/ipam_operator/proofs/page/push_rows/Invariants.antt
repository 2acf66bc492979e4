use Rattle.std.proofs.Common.{◌≡◌, drop}
use Rattle.serde_json.specs.View.{items_view}
use Rattle.ipam_operator.specs.Page.{rows_with}
use Rattle.ipam_operator.proofs.page.push_rows.Given as goal

-- the rows so far, and those that the other items are
abbrev pub invariant-loop-item : goal.invariant-loop-item
invariant-loop-item l =
    rows_with l.kind l.rows.items (items_view (drop l.item-index l.items)) ≡ rows_with l.kind l.initial.rows.items (items_view l.items)
