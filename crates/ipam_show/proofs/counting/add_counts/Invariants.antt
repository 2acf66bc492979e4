use Rattle.std.proofs.Common.{◌≡◌, ◌++◌, drop}
use Rattle.ipam_pool.specs.Spans.{is_reserved_by}
use Rattle.ipam_show.specs.Counts.{counts_in}
use Rattle.ipam_show.proofs.counting.add_counts.Given as goal

abbrev pub invariant-loop-row : goal.invariant-loop-row
invariant-loop-row l =
    l.counts.items ++ counts_in (is_reserved_by l.reserved) (drop l.row-index l.rows)
    ≡ l.initial.counts.items ++ counts_in (is_reserved_by l.reserved) l.rows
