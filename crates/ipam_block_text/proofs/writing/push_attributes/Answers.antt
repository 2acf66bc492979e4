use Rattle.std.proofs.Common.{◌∙◌, ◌++◌, ap, sym, codes, string_bytes}
use Rattle.json.specs.Print.{quoted}
use Rattle.serde_json.specs.Written.{compact_text}
use Rattle.ipam_block_text.specs.Body.{secondary_data}
use Rattle.ipam_block_text.proofs.Written.{on_ok, then_more, attributes_text}
use Rattle.ipam_block_text.proofs.writing.push_attributes.Goals as goal

pub returns : goal.returns
returns c =
    on_ok c.push-3.result c.push-3.ensures (λ last.
    let from_4 = then_more (string_bytes c.push-2.new.out) (string_bytes c.push_secondary.new.out) (string_bytes c.push-3.new.out) (compact_text (secondary_data c.args.attributes.now.secondary)) (codes "}") (c.in_ok-push_secondary.ensures ∙ ap (λ x. string_bytes c.push-2.new.out ++ compact_text (secondary_data x)) c.as_slice.ensures) last in
    let from_3 = then_more (string_bytes c.push_quoted.new.out) (string_bytes c.push-2.new.out) (string_bytes c.push-3.new.out) (codes ",\"secondary\":") (compact_text (secondary_data c.args.attributes.now.secondary) ++ (codes "}")) c.in_ok-push-2.ensures from_4 in
    let from_2 = then_more (string_bytes c.push.new.out) (string_bytes c.push_quoted.new.out) (string_bytes c.push-3.new.out) (quoted c.args.attributes.now.handle) (codes ",\"secondary\":" ++ (compact_text (secondary_data c.args.attributes.now.secondary) ++ (codes "}"))) (c.in_ok-push_quoted.ensures ∙ ap (λ x. string_bytes c.push.new.out ++ quoted x) c.as_str.ensures) from_3 in
    let from_1 = then_more (string_bytes c.args.out.now) (string_bytes c.push.new.out) (string_bytes c.push-3.new.out) (codes "{\"handle_id\":") (quoted c.args.attributes.now.handle ++ (codes ",\"secondary\":" ++ (compact_text (secondary_data c.args.attributes.now.secondary) ++ (codes "}")))) c.in_ok-push.ensures from_2 in
    from_1 ∙ ap (λ s. string_bytes c.args.out.now ++ s) (sym (attributes_text c.args.attributes.now)))
