use Rattle.std.proofs.Common.{◌∙◌, sym}
use Rattle.ipam_block_text.proofs.Names.{number_name}
use Rattle.ipam_block_text.proofs.form.is_number_name.Goals as goal

pub returns : goal.returns
returns c =
    let index = rw c.as_bytes.ensures.value at (sym c.is_index.ensures ∙ c.if-not-is_index.false) in
    c.is_ok.ensures.value ∙ number_name _ c.parse.result index c.parse.ensures.value.0
