use Rattle.std.proofs.Common.{◌∙◌, ap}
use Rattle.std.proofs.lemmas.Result.{IfOk-weaker}
use Rattle.serde_json.specs.Written.{has_float, compact_text}
use Rattle.ipam_record_text.specs.Handle.{handle_body}
use Rattle.ipam_record_text.proofs.Handles.{has_float-handle_data}
use Rattle.ipam_record_text.proofs.handle.handle_text.Goals as goal

pub returns : goal.returns
unfolding handle_body
returns c =
    let json = c.in_ok-json.ensures in
    IfOk-weaker c.to_string.result _ _ (λ s text. text (ap has_float json ∙ has_float-handle_data c.args.handle.now) ∙ ap compact_text json) c.to_string.ensures.text
