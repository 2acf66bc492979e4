use Rattle.std.proofs.Common.{◌≡◌, ◌++◌}
use Rattle.std.specs.List.{take_while}
use Rattle.std.specs.VecDeque.Iter.{deque_iter_rest}
use Rattle.ipam_store.specs.Feed.{is_above}
use Rattle.ipam_store.proofs.feed_kept.newest.Given as goal

abbrev pub invariant-loop-change : goal.invariant-loop-change
invariant-loop-change l =
    l.found.items ++ take_while (is_above l.revision) (deque_iter_rest l.change-iterator)
    ≡ take_while (is_above l.revision) l.changes.items
