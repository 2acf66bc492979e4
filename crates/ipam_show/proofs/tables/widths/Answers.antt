use Rattle.std.proofs.Common.{sym, arith}
use Rattle.std.proofs.lemmas.List.FromFn.{map-range_with_len_more}
use Rattle.ipam_show.specs.Columns.{widest}
use Rattle.ipam_show.proofs.tables.widths.Goals as goal

pub loop-column-preserved : goal.loop-column-preserved
loop-column-preserved c =
    let column = c.loop-column.column in
    let more = map-range_with_len_more (λ k. widest k c.args.rows.now) 0 column column (omega arith) in
    let pushed = c.in_ok-push.ensures.items in
    let so_far = c.loop-column.invariant in
    let value = c.widest.ensures in
    rw (pushed, so_far, value) (sym more)
