use Rattle.std.proofs.Common.{◌∙◌, ap}
use Rattle.std.proofs.lemmas.Result.{IfOk-weaker}
use Rattle.serde_json.specs.Written.{has_float, compact_text}
use Rattle.ipam_request_text.specs.Requests.{live_text}
use Rattle.ipam_request_text.proofs.Floats.{has_float-texts_data}
use Rattle.ipam_request_text.proofs.request.live_string.Goals as goal

pub returns : goal.returns
unfolding live_text
returns c =
    let json = c.in_ok-json.ensures in
    IfOk-weaker c.to_string.result _ _ (λ s text. text (ap has_float json ∙ has_float-texts_data c.args.live.now) ∙ ap compact_text json) c.to_string.ensures.text
