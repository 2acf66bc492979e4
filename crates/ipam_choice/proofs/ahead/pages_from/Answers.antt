use Rattle.std.proofs.Common.{◌+◌, ◌-◌, ◌/◌, sym, ap, subst, arith, List}
use Rattle.std.specs.List.Sorted.{IsStrictlySortedBy}
use Rattle.ipam_block.specs.Order.{cidr_cmp}
use Rattle.ipam_records.specs.Listing.{rows_of}
use Rattle.ipam_model.specs.Reads.{StoredRecord}
use Rattle.ipam_choice.specs.Blocks.{cidrs_in, EndsBefore}
use Rattle.ipam_choice.proofs.AheadLemmas.{blocks_ascend, pages_before, part_from}
use Rattle.ipam_choice.proofs.ahead.pages_from.Goals as goal

pub loop-low-preserved-then-ends_before : goal.loop-low-preserved-then-ends_before
loop-low-preserved-then-ends_before c =
    let middle = c.loop-low.low + (c.loop-low.high - c.loop-low.low) / 2 in
    let ascends = subst (λ (rows : List StoredRecord). IsStrictlySortedBy cidr_cmp (cidrs_in rows)) (sym c.pages-pages.ensures) (blocks_ascend c.args.blocks.now) in
    let ends = subst (EndsBefore c.args.first) c.deref.ensures.value (c.ends_before.ensures c.if-ends_before.true) in (
      omega arith,
      c.loop-low.invariant.1,
      pages_before c.args.first c.pages-pages.result.now middle c.index-pages-middle.result c.index-pages-middle.is (omega arith) ends ascends,
    )

pub returns : goal.returns
returns c =
    part_from c.args.first (cidrs_in (rows_of c.args.blocks.now)) c.pages-pages.result.now c.split_at.result.1.now c.loop-low.low
    (ap cidrs_in c.pages-pages.ensures) c.split_at.ensures.back c.loop-low.invariant.2
