use Rattle.std.proofs.Common.{arith}
use Rattle.std.proofs.lemmas.Str.Pattern.{split_once_first}
use Rattle.ipam_answer_text.proofs.WordLemmas.{split_told}
use Rattle.ipam_answer_text.proofs.words.split_word.Goals as goal

pub returns : goal.returns
returns c =
    split_told c.args.text.now c.split_once.result (split_once_first 32 c.args.text.now c.split_once.result c.split_once.ensures.cases (omega arith))
