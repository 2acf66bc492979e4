use Rattle.std.proofs.Common.{◌≡◌, ◌+◌, ◌-◌, ◌≤◌, ◌++◌, reverse}
use Rattle.std.specs.Vec.{vec_len, vec_capacity}
use Rattle.ipam_store.proofs.pages.move_half.Given as goal

abbrev pub invariant-loop-half : goal.invariant-loop-half
invariant-loop-half l = record {
  rows : l.page.items ++ reverse l.half.items ≡ l.fn.page.items;
  least : 64 ≤ vec_len l.page;
  all : vec_len l.page + vec_len l.half ≡ 128;
  page : 128 ≤ vec_capacity l.page;
  half : 128 ≤ vec_capacity l.half;
}

abbrev pub decreases-loop-half : goal.decreases-loop-half
decreases-loop-half l = vec_len l.page - 64
