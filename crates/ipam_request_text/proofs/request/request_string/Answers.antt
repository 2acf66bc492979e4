use Rattle.std.proofs.Common.{◌∙◌, ap}
use Rattle.std.proofs.lemmas.Result.{IfOk-weaker}
use Rattle.serde_json.specs.Written.{has_float, compact_text}
use Rattle.ipam_request_text.specs.Requests.{request_text}
use Rattle.ipam_request_text.proofs.Floats.{has_float-request_data}
use Rattle.ipam_request_text.proofs.request.request_string.Goals as goal

pub returns : goal.returns
unfolding request_text
returns c =
    let json = c.in_ok-json.ensures in
    IfOk-weaker c.to_string.result _ _ (λ s text. text (ap has_float json ∙ has_float-request_data c.args.request.now) ∙ ap compact_text json) c.to_string.ensures.text
