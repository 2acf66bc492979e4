use Rattle.std.proofs.Common.{◌++◌, codes, map, string_bytes}
use Rattle.serde_json.specs.Written.{compact_text}
use Rattle.ipam_json.specs.Built.{array_of, whole_data}
use Rattle.ipam_block_text.proofs.Written.{on_ok, then_more}
use Rattle.ipam_block_text.proofs.writing.push_queue.Goals as goal

pub returns : goal.returns
returns c =
    on_ok c.push-2.result c.push-2.ensures (λ last.
    let end = string_bytes c.push-2.new.out in
    let queue = compact_text (array_of (map whole_data c.args.queue.now)) in
    let from_2 = then_more (string_bytes c.push.new.out) (string_bytes c.push_numbers.new.out) end queue (codes "}") c.in_ok-push_numbers.ensures last in
    then_more (string_bytes c.args.out.now) (string_bytes c.push.new.out) end (codes ",\"unallocated\":") (queue ++ codes "}") c.in_ok-push.ensures from_2)
