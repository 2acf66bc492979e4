use Rattle.std.proofs.Common.{◌++◌, codes, decimal, string_bytes}
use Rattle.ipam_block_text.proofs.Written.{on_ok, then_more}
use Rattle.ipam_block_text.proofs.writing.push_sequence.Goals as goal

pub returns : goal.returns
returns c =
    on_ok c.push-2.result c.push-2.ensures (λ last.
    let end = string_bytes c.push-2.new.out in
    let next = codes ",\"sequenceNumberForAllocation\":" in
    let from_2 = then_more (string_bytes c.push.new.out) (string_bytes c.push_whole.new.out) end (decimal c.args.sequence) next c.in_ok-push_whole.ensures last in
    then_more (string_bytes c.args.out.now) (string_bytes c.push.new.out) end (codes ",\"sequenceNumber\":") (decimal c.args.sequence ++ next) c.in_ok-push.ensures from_2)
