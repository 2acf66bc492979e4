use Rattle.ipam_block_text.specs.Stamps.{stamp_field}
use Rattle.ipam_block_text.proofs.Written.{on_ok, member_written, members_ended}
use Rattle.ipam_block_text.proofs.writing.push_stamps.Goals as goal

pub loop-stamp-preserved : goal.loop-stamp-preserved
loop-stamp-preserved c =
    let l = c.loop-stamp in
    member_written stamp_field _ _ _ l.later c.args.stamps.now l.stamp-index _ c.loop-stamp-test.true c.in_ok-push_stamp.ensures l.invariant

pub returns : goal.returns
returns c =
    let l = c.loop-stamp in
    on_ok c.push-2.result c.push-2.ensures (λ last. members_ended stamp_field _ _ _ l.later c.args.stamps.now l.stamp-index c.loop-stamp-test.false l.invariant last)
