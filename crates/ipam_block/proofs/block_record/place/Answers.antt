use Rattle.std.proofs.Common.{rules}
use Rattle.std.proofs.lemmas.List.Sorted.{answers_always}
use Rattle.ipam_block.proofs.Searched.{searched}
use Rattle.ipam_block.proofs.block_record.place.Goals as goal

-- the closure gives the ordinal of an allocation
pub returns : goal.returns
returns c =
    let facts = c.binary_search_by_key.ensures in
    let by_key = facts.position (λ allocation. allocation.ordinal) (answers_always _ _ _ (λ f a r g called. search rules)) in
    let finds = searched c.args.held.now c.requires c.args.ordinal _ facts.bound by_key in
    record {
      held = finds.held;
      found = finds.found;
      within = finds.within;
      absent = finds.absent;
      lower = finds.lower;
      room = finds.room;
    }
