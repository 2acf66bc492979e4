use Rattle.std.proofs.Common.{◌≡◌, ◌∙◌, ◌++◌, ap, string_bytes}
use Rattle.serde_json.specs.Written.{compact_text, has_float}
use Rattle.ipam_block_text.specs.Body.{secondary_data}
use Rattle.ipam_block_text.proofs.Floats.{has_float-secondary_data}
use Rattle.ipam_block_text.proofs.Written.{on_ok}
use Rattle.ipam_block_text.proofs.writing.push_secondary.Goals as goal

pub returns : goal.returns
returns c =
    let value = c.in_ok-secondary_value.ensures in
    let text : c.as_str.result.now ≡ compact_text (secondary_data c.args.pairs.now) =
    c.as_str.ensures.value ∙ c.in_ok-text.ensures.text (ap has_float value ∙ has_float-secondary_data c.args.pairs.now) ∙ ap compact_text value in
    on_ok c.push.result c.push.ensures (λ last. last ∙ ap (λ s. string_bytes c.args.out.now ++ s) text)
