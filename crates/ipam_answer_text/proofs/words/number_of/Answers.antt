use Rattle.std.proofs.Common.{sym, ◌∙◌}
use Rattle.ipam_answer_text.proofs.WordLemmas.{parsed}
use Rattle.ipam_answer_text.proofs.words.number_of.Goals as goal

pub returns : goal.returns
returns c =
    let index = rw c.as_bytes.ensures.value at (sym c.is_index.ensures ∙ c.if-not-is_index.false) in
    c.ok.ensures.value ∙ parsed c.args.word.now c.parse.result index c.parse.ensures.value.0
