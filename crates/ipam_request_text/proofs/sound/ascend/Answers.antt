use Rattle.std.proofs.Common.{rules}
use Rattle.std.specs.Ordering.{nat_cmp, is_lt}
use Rattle.std.specs.Cmp.Lexicographic.{slice_cmp}
use Rattle.std.proofs.lemmas.List.Sorted.{answers_always}
use Rattle.ipam_request_text.proofs.Ascending.{ascend-told}
use Rattle.ipam_request_text.proofs.sound.ascend.Goals as goal

pub returns : goal.returns
returns c =
    ascend-told _ _ (c.is_sorted_by.ensures.cases (λ x y. is_lt (slice_cmp nat_cmp x.0 y.0)) (answers_always _ _ _ (λ f a r g called. search rules)))
