use Rattle.std.proofs.Common.{◌∙◌, ◌++◌, ◌∷◌, [], ap, string_bytes}
use Rattle.json.specs.Print.{quoted}
use Rattle.serde_json.specs.Written.{comma_if}
use Rattle.ipam_block_text.proofs.Written.{on_ok, then_more}
use Rattle.ipam_block_text.proofs.writing.push_pair.Goals as goal

pub returns : goal.returns
returns c =
    on_ok c.push_quoted-2.result c.push_quoted-2.ensures (λ last.
    let key = quoted c.args.pair.now.0 in
    let value = quoted c.args.pair.now.1 in
    let from_3 = then_more (string_bytes c.push_quoted.new.out) (string_bytes c.push.new.out) (string_bytes c.push_quoted-2.new.out) (58 ∷ []) value c.in_ok-push.ensures (last ∙ ap (λ x. string_bytes c.push.new.out ++ quoted x) c.as_str-2.ensures) in
    let from_2 = then_more (string_bytes c.push_comma.new.out) (string_bytes c.push_quoted.new.out) (string_bytes c.push_quoted-2.new.out) key (58 ∷ value) (c.in_ok-push_quoted.ensures ∙ ap (λ x. string_bytes c.push_comma.new.out ++ quoted x) c.as_str.ensures) from_3 in
    then_more (string_bytes c.args.out.now) (string_bytes c.push_comma.new.out) (string_bytes c.push_quoted-2.new.out) (comma_if c.args.later) (key ++ 58 ∷ value) c.in_ok-push_comma.ensures from_2)
