use Rattle.std.proofs.Common.{rules}
use Rattle.std.specs.Ordering.{is_lt}
use Rattle.std.proofs.lemmas.List.Sorted.{answers_always}
use Rattle.ipam_addr.specs.contracts.cidrs.CidrOrd.TheImpl.{ghosts}
use Rattle.ipam_block.proofs.Search.{ascend-told}
use Rattle.ipam_block.proofs.handles.ascend.Goals as goal

pub returns : goal.returns
returns c =
    ascend-told _ _ (c.is_sorted_by.ensures.cases (λ x y. is_lt (ghosts.cmp x.0 y.0)) (answers_always _ _ _ (λ f a r g called. search rules)))
