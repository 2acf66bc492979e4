use Rattle.std.proofs.Common.{◌∙◌, ◌++◌, ◌∷◌, [], ap, arith, decimal, string_bytes}
use Rattle.serde_json.specs.Written.{comma_if}
use Rattle.ipam_block_text.proofs.Written.{on_ok, then_more, stamp_text}
use Rattle.ipam_block_text.proofs.writing.push_stamp.Goals as goal

pub returns : goal.returns
returns c =
    on_ok c.push_whole-2.result c.push_whole-2.ensures (λ last.
    let end = string_bytes c.push_whole-2.new.out in
    let name = decimal c.args.stamp.0 in
    let stamp = decimal c.args.stamp.1 in
    let from_4 = then_more (string_bytes c.push_whole.new.out) (string_bytes c.push-2.new.out) end (34 ∷ 58 ∷ []) stamp c.in_ok-push-2.ensures last in
    let from_3 = then_more (string_bytes c.push.new.out) (string_bytes c.push_whole.new.out) end name (34 ∷ 58 ∷ stamp) (c.in_ok-push_whole.ensures ∙ ap (λ n. string_bytes c.push.new.out ++ decimal n) c.from.ensures) from_4 in
    let from_2 = then_more (string_bytes c.push_comma.new.out) (string_bytes c.push.new.out) end (34 ∷ []) (name ++ 34 ∷ 58 ∷ stamp) c.in_ok-push.ensures from_3 in
    then_more (string_bytes c.args.out.now) (string_bytes c.push_comma.new.out) end (comma_if c.args.later) (34 ∷ (name ++ 34 ∷ 58 ∷ stamp)) c.in_ok-push_comma.ensures from_2
    ∙ ap (λ s. string_bytes c.args.out.now ++ (comma_if c.args.later ++ s)) (stamp_text c.args.stamp.0 c.args.stamp.1 (omega arith)))
