use Rattle.std.proofs.Common.{◌∙◌, ap}
use Rattle.std.proofs.lemmas.Result.{IfOk-weaker}
use Rattle.serde_json.specs.Written.{has_float, compact_text}
use Rattle.ipam_answer_text.specs.Answers.{answer_text}
use Rattle.ipam_answer_text.proofs.Floats.{has_float-answer_data}
use Rattle.ipam_answer_text.proofs.answer.answer_string.Goals as goal

pub returns : goal.returns
unfolding answer_text
returns c =
    let json = c.in_ok-json.ensures in
    IfOk-weaker c.to_string.result _ _ (λ s text. text (ap has_float json ∙ has_float-answer_data c.args.answer.now) ∙ ap compact_text json) c.to_string.ensures.text
