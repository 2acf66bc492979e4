use Rattle.std.proofs.Common.{◌≡◌, take}
use Rattle.std.specs.Prelude.{count_by, not}
use Rattle.ipam_block.specs.Operations.{ordinal_address}
use Rattle.ipam_pool.specs.Spans.{is_reserved_by}
use Rattle.ipam_show.proofs.counting.free_in.Given as goal

abbrev pub invariant-loop-place : goal.invariant-loop-place
invariant-loop-place l =
    l.count ≡ count_by (λ o. not (is_reserved_by l.reserved (ordinal_address l.block.cidr o))) (take l.place l.block.queue)
