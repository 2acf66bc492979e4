use Rattle.std.proofs.Common.{rules}
use Rattle.std.proofs.lemmas.List.Sorted.{answers_always}
use Rattle.ipam_block.proofs.Search.{searched}
use Rattle.ipam_block.proofs.handles.place.Goals as goal

-- the closure gives the block of a count
pub returns : goal.returns
returns c =
    let facts = c.binary_search_by_key.ensures in
    let by_key = facts.position (λ entry. entry.0) (answers_always _ _ _ (λ f a r g called. search rules)) in
    searched _ c.requires c.args.cidr _ facts.bound by_key
