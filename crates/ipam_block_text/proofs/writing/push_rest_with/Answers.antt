use Rattle.std.proofs.Common.{string_bytes}
use Rattle.ipam_block_text.proofs.Written.{on_ok, rest_written}
use Rattle.ipam_block_text.proofs.writing.push_rest_with.Goals as goal

pub returns : goal.returns
returns c =
    on_ok c.push_queue.result c.push_queue.ensures (λ last.
    rest_written (string_bytes c.args.out.now) (string_bytes c.push_sequence.new.out) (string_bytes c.push.new.out) (string_bytes c.push_queue.new.out)
    c.args.sequence c.args.stamps.now c.args.queue.now c.in_ok-push_sequence.ensures c.in_ok-push.ensures last)
