use Rattle.std.proofs.Common.{◌∙◌, ap}
use Rattle.std.specs.Prelude.{bytes_eq}
use Rattle.ipam_block_text.proofs.reading.is_text_with.Goals as goal

pub returns : goal.returns
returns c = c.eq.ensures ∙ ap (λ t. bytes_eq t c.args.body.now) (c.as_str.ensures.value ∙ c.in_ok-text.ensures)
